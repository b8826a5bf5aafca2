use Rattle.std.proofs.Common.{◌≡◌, ℕ, ◌+◌, List, ◌++◌, length, sym, ap, ◌∙◌, subst, rules, arith}
use Rattle.sup_inbox.specs.declared.note.Note.{Note}
use Rattle.sup_inbox.specs.Ends.{AreOf}
use Rattle.sup_inbox.specs.PostingLaws.{are_of}
use Rattle.sup_crew.specs.declared.job.Child.{Child}
use Rattle.sup_core.specs.Account.{account}
use Rattle.sup_crew.specs.Calls.{jobs_made}
use Rattle.sup_crew.specs.Jobs.{weigh, children_of}
use Rattle.sup_crew.specs.Joins.{taken_of}
use Rattle.sup_crew.specs.Drivers.{front_of, calls_since}
use Rattle.sup_crew.specs.Work.{ended, AreEnds}
use Rattle.sup_crew.specs.JobLaws.{weigh-append}
use Rattle.sup_crew.proofs.Right.{since-right}
use Rattle.sup_crew.proofs.Reported.{own-others, own-left, named-entered, agree, all_planned, none_unstarted}
use Rattle.sup_crew.proofs.Sums.{endpoints, rows_of, posters-length, back_ends, taken-told, run_told, run_ends}
use Rattle.sup_crew.specs.WorkLaws.{ended-append, are_ends-append, are_ends-split}
use Rattle.sup_crew.proofs.closing.close.Goals as goal

pub collect-endpoint-requires-clause-endpoints : goal.collect-endpoint-requires-clause-endpoints
collect-endpoint-requires-clause-endpoints g c = endpoints _ _ _ _ _ c.requires.outcome.2.worked

pub settle-requires-clause-posters : goal.settle-requires-clause-posters
settle-requires-clause-posters g c =
    let j = c.requires.outcome.2 in
    let e = c.collect-endpoint.ensures.posters in
    let n = ap (λ l. length l) e ∙ posters-length c.args.outcome.finished.items in
    let a = c.collect-endpoint.result.1.ok.0 in
    let b = j.count in
    let t = j.of_inbox.1 in
    let k = ap (λ t. t.posters) c.end-taker.ensures.taker in
    (subst (AreOf c.args.crew.inbox.id) (sym e) (are_of _ 1 _ (rows_of _ _ _ 1 _ j.worked)), omega (arith, n, a, b, t, k))

pub returns : goal.returns
returns g c run after j =
    let l = j.driven in
    let e = c.collect-endpoint.ensures in
    let took = c.end-taker.ensures in
    let ends_of = c.end-endpoint.ensures in
    let rs = c.args.outcome.finished.items in
    let entered = c.args.outcome.drain.entered in
    let held = c.args.outcome.drain.held in
    let inbox = c.in-Ok.settled.left.items in
    let unposted = c.collect-endpoint.result.2.items in
    let left = children_of c.read_all-left.result.items in
    let may_end = g.B.Body.may_end c.args.body.now in
    let ticket = c.args.outcome.ticket in
    let items = account run.template (front_of ticket) in
    let cs = calls_since run.template run.before ticket in
    let right = since-right run.template run.before ticket in
    let n = c.collect-endpoint.result.1.ok.0 ∙ ap (λ l. length l) e.posters ∙ posters-length rs in
    let tk = ap (λ t. t.taken) took.taker in
    let list = c.extend_from_slice.new.self.items in
    let is_held : list ≡ held = c.in-Ok-extend_from_slice.ensures.items ∙ ap (λ l. l ++ c.as_slice.result.now) c.requires.room.0.3 ∙ c.as_slice.ensures.value ∙ took.held in
    let ends = run_ends may_end _ _ rs _ _ (entered ++ held) inbox _ j.worked e.posters tk n c.in-Ok.ensures.each c.in-Ok.ensures.others in
    let parts = are_ends-split may_end (entered ++ held) inbox ends in
    let first = are_ends-split may_end entered held parts.0 in
    let back = subst (AreEnds may_end) (sym e.unposted) (back_ends _ _ _ 1 _ j.worked) in
    let others : List Note = list ++ inbox ++ unposted in
    let jobs : (h : Child → ℕ) → weigh h (jobs_made cs entered) ≡ weigh h (ended entered) + (weigh h (ended others) + weigh h left) = λ h.
    let a = l.jobs h in
    let r = c.read_all-left.ensures h in
    let p = ap (weigh h) (e.endpoint.2 ∙ ap (λ v. v.permission.put) ends_of.endpoint.0) in
    let t = ap (weigh h) (e.endpoint.3 ∙ ap (λ v. v.permission.taken ++ taken_of rs) ends_of.endpoint.0) in
    let k = ap (weigh h) ends_of.kept in
    let w = taken-told h may_end _ _ 1 rs j.worked in
    let u = ap (λ l. weigh h (ended l)) e.unposted in
    let s = run_told h may_end _ _ rs _ _ (entered ++ held) inbox _ j.worked e.posters tk n c.in-Ok.ensures.each c.in-Ok.ensures.others in
    let d = ap (weigh h) (ended-append entered held) ∙ weigh-append h (ended entered) (ended held) in
    let f = ap (λ l. weigh h (ended l)) is_held in
    let x = ap (weigh h) (ended-append (list ++ inbox) unposted) ∙ weigh-append h (ended (list ++ inbox)) (ended unposted) in
    let y = ap (weigh h) (ended-append list inbox) ∙ weigh-append h (ended list) (ended inbox) in
    omega (arith, a, r, p, t, k, w, u, s, d, f, x, y)
    in
    record {
      of_press = l.of_press;
      driver = j.driver ∙ l.called.number;
      called = l.called;
      whole = l.whole;
      driven = l.driven;
      starts = all_planned _ c.args.outcome.started c.args.crew.plan.children.items _ l.starts (search rules);
      all = none_unstarted c.args.outcome.fault c.args.outcome.started c.args.crew.plan.children.items _ (search rules) j.all;
      cause = j.cause;
      named = named-entered items cs right entered others left l.driven l.exits_are jobs may_end first.0;
      agree = agree items cs right entered others left l.driven l.exits_are jobs;
      own = (
        own-others items cs right entered others left l.driven l.exits_are jobs,
        own-left items cs right entered others left l.driven l.exits_are jobs,
      );
      ends = are_ends-append may_end (list ++ inbox) unposted (are_ends-append may_end list inbox (subst (AreEnds may_end) (sym is_held) first.1) parts.1) back;
      counts = l.counts;
    }
