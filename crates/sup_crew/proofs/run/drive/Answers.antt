use Rattle.std.proofs.Common.{◌≡◌, take, [], None, refl, ap, sym, ◌∙◌, subst, rules, arith}
use Rattle.std.specs.Prelude.{IfSome}
use Rattle.sup_desk.specs.Knowledge.{Knowledge}
use Rattle.sup_crew.specs.Drivers.{run_of, DriverModel, HasDriven, IsCause}
use Rattle.sup_crew.proofs.Driven.{driven_begins, none_before}
use Rattle.sup_crew.proofs.run.drive.Goals as goal

pub returns-clause-outcome : goal.returns-clause-outcome
returns-clause-outcome g c =
    let h = c.in-Ok.ensures in
    let s = c.start_all-started.ensures in
    let f = c.drain_all-fault.ensures in
    let d = c.drain_all-fault-2.ensures in
    let taker = c.args.run.whole.taker in
    let jobs = c.new.ensures in
    let drain = c.new-2.ensures in
    let view = c.driver.view_is in
    let it = c.driver.inside in
    let end = c.drain_all-fault-2.new.self in
    let run = run_of g.N.Name.template g.N.Name.press c.args.run.crew.now.plan.moment c.args.caller in
    let new : DriverModel = record { knows = c.bind.result; jobs = c.new.result; drain = c.new-2.result; ticket = None; tally = c.default.result } in
    let begins : HasDriven run [] new = driven_begins run new c.bind.ensures refl (search rules) (ap (λ d. d.entered) drain ∙ ap (λ t. t.taken) taker) jobs.2 jobs.3 in
    let last : record { knows = c.unbind-caller.result.0; jobs = it.jobs; drain = it.drain; ticket = it.ticket; tally = it.tally } ≡ end =
    (λ i. record { knows = c.unbind-caller.ensures i; jobs = it.jobs; drain = it.drain; ticket = it.ticket; tally = it.tally }) ∙ view
    in
    record {
      driver = c.number.ensures;
      driven = subst (HasDriven run (take c.start_all-started.result.0 c.args.run.crew.now.plan.children.items)) (sym last) (d.drained _ _ (f.drained _ _ (s.started _ [] begins)));
      of_queue = (
        ap (λ (d : DriverModel). d.jobs.queue) view ∙ d.same.0.0 ∙ f.same.0.0 ∙ s.same.0.0 ∙ jobs.0 ∙ ap (λ v. v.queue) h.endpoint.0,
        (let p = ap (λ (d : DriverModel). d.jobs.parts) view ∙ d.same.0.1 ∙ f.same.0.1 ∙ s.same.0.1 ∙ jobs.1 in let r = h.endpoint.1 in omega (arith, p, r)),
      );
      of_inbox = (
        ap (λ (d : DriverModel). d.drain.inbox) view ∙ d.same.1 ∙ f.same.1 ∙ s.same.1 ∙ ap (λ d. d.inbox) drain ∙ ap (λ t. t.inbox) taker,
        ap (λ (d : DriverModel). d.drain.posters) view ∙ d.same.2 ∙ f.same.2 ∙ s.same.2 ∙ ap (λ d. d.posters) drain ∙ ap (λ t. t.posters) taker,
      );
      all = none_before c.start_all-started.result.1 c.drain_all-fault-2.result _ (λ is. d.stays (f.stays is)) s.all;
      few = s.few;
      cause = subst (λ (k : Knowledge). IfSome c.drain_all-fault-2.result (IsCause run.template k)) (sym (ap (λ (d : DriverModel). d.knows) last)) d.cause;
      count = sym c.join_all-finished.result.ok.0 ∙ c.join_all-finished.ensures.len ∙ h.len;
      worked = c.join_all-finished.ensures.each;
    }

pub returns-in-Err-clause-outcome : goal.returns-in-Err-clause-outcome
returns-in-Err-clause-outcome g c = (refl, refl)
