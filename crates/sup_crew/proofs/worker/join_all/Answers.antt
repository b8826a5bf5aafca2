use Rattle.std.proofs.Common.{◌≡◌, ◌+◌, sym, ap, subst, rules, arith}
use Rattle.std.specs.Prelude.{vec_items, vec_len}
use Rattle.sup_crew.specs.Work.{AreWorked}
use Rattle.sup_crew.proofs.Worked.{are_worked-snoc, worked-moved}
use Rattle.sup_crew.proofs.worker.join_all.Goals as goal

pub loop-worker-preserved : goal.loop-worker-preserved
loop-worker-preserved g c =
    let i = c.loop-worker.invariant in
    let steps = c.in-Some.ensures.steps in
    let len = c.loop-worker.finished.ok.0 in
    record {
      len = search rules;
      rest = λ k d low. let h = i.rest (k + 1) d in grind rules;
      done =
          let h = i.rest 0 c.in-Some.worker in
          let p = c.in-Some.worker.promise in
          let first : (p.crew.now ≡ c.args.crew.now) × (p.body.now ≡ c.args.body.now) × (p.number ≡ vec_len c.loop-worker.finished + 1) = grind rules in
          let one = worked-moved _ _ _ _ _ _ _ _ _ (ap g.B.Body.may_end first.1) (ap (λ w. w.jobs) first.0) (ap (λ w. w.inbox.id) first.0) (omega (arith, first.2, len)) c.join.ensures in
          subst (AreWorked (g.B.Body.may_end c.args.body.now) c.args.crew.now.jobs c.args.crew.now.inbox.id 1) (sym c.push_reserved.ensures.items) (are_worked-snoc _ _ _ 1 (vec_items c.loop-worker.finished) _ i.done one);
    }
