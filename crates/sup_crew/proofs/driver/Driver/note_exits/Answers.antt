use Rattle.std.proofs.Common.{◌≡◌, true, ◌+◌, ◌<◌, ◌∷◌, length, drop, sym, ap, ◌∙◌, subst, arith}
use Rattle.std.specs.Prelude.{vec_items}
use Rattle.std.proofs.lemmas.List.{drop_more}
use Rattle.sup_types.specs.declared.history.Reply.{Reply}
use Rattle.sup_log.specs.Tokens.{Told}
use Rattle.sup_crew.specs.Births.{IsBorn, IsBornBy, AreBornBy}
use Rattle.sup_crew.specs.Drains.{replies_of}
use Rattle.sup_crew.specs.Jobs.{weigh}
use Rattle.sup_crew.specs.JobLaws.{weigh-append}
use Rattle.sup_crew.specs.Drivers.{restarted_job, restarted_jobs}
use Rattle.sup_crew.specs.Tallies.{with_replies}
use Rattle.sup_crew.proofs.driver.Driver.note_exits.Goals as goal

pub new-requires-clause-press : goal.new-requires-clause-press
new-requires-clause-press g c = ap (λ (t : Told). t.press) c.copied.ensures ∙ c.loop-at.invariant.press

pub new-requires-clause-born : goal.new-requires-clause-born
new-requires-clause-born g c =
    let template = g.N.Name.template in
    let all = vec_items c.args.done.pairs in
    let p = c.index.result.now in
    let t = c.loop-at-test.true in
    let l = c.len-count.ensures in
    let v = c.args.done.pairs.ok.0 in
    let low : c.loop-at.at < length all = omega (arith, t, l, v) in
    let e = drop_more all c.loop-at.at p low ∙ ap (λ x. x ∷ drop (c.loop-at.at + 1) all) (sym c.index.ensures) in
    let born = subst (λ l. AreBornBy template c.in-Some.ticket.front (replies_of l)) e c.loop-at.invariant.born in
    subst (λ (t : Told). IsBorn template t.front c.in-Restarted.number) (sym c.copied.ensures) (subst (IsBornBy template c.in-Some.ticket.front) c.in-Restarted.is born.0)

pub dispatch-requires : goal.dispatch-requires
dispatch-requires g c =
    let i = c.loop-at.invariant in
    let all = vec_items c.args.done.pairs in
    let p = c.index.result.now in
    let t = c.loop-at-test.true in
    let l = c.len-count.ensures in
    let v = c.args.done.pairs.ok.0 in
    let low : c.loop-at.at < length all = omega (arith, t, l, v) in
    let r = i.room.1 in
    let n = ap (λ l. length l) (drop_more all c.loop-at.at p low) in
    (i.room.0, omega (arith, r, n))

pub loop-at-preserved : goal.loop-at-preserved
loop-at-preserved g c =
    let i = c.loop-at.invariant in
    let e = c.dispatch.ensures in
    let all = vec_items c.args.done.pairs in
    let p = c.index.result.now in
    let t = c.loop-at-test.true in
    let l = c.len-count.ensures in
    let v = c.args.done.pairs.ok.0 in
    let low : c.loop-at.at < length all = omega (arith, t, l, v) in
    let rest = drop (c.loop-at.at + 1) all in
    let step = drop_more all c.loop-at.at p low ∙ ap (λ x. x ∷ rest) (sym c.index.ensures) in
    let child = c.new.ensures.child in
    record {
      same = (i.same.0, i.same.1, (e.same.0 ∙ i.same.2.0, e.same.1 ∙ i.same.2.1));
      tally = ap (λ t. with_replies t true (replies_of rest)) c.count_exit.ensures ∙ sym (ap (λ l. with_replies c.loop-at.self-inside.tally true (replies_of l)) step) ∙ i.tally;
      press = i.press;
      born = (subst (λ l. AreBornBy g.N.Name.template c.in-Some.ticket.front (replies_of l)) step i.born).1;
      room = (e.same.0 ∙ i.room.0, (let r = i.room.1 in let s = ap (λ l. length l) step in let l = e.room in omega (arith, r, s, l)));
      account = λ h.
          let a = i.account h in
          let b = e.account h in
          let s = ap (λ l. weigh h (restarted_jobs l)) step ∙ weigh-append h (restarted_job p.0 p.1) (restarted_jobs rest) in
          let j = ap (λ (r : Reply). weigh h (restarted_job p.0 r)) c.in-Restarted.is in
          let n : h (record { number = c.new.result.number; arg = c.new.result.arg }) ≡ h (record { number = c.in-Restarted.number; arg = p.0.arg }) = λ k. h (record { number = child.0 k; arg = child.1 k }) in
          omega (arith, a, b, s, j, n);
    }
