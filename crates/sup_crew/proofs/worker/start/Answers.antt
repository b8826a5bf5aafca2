use Rattle.std.proofs.Common.{◌≡◌, suc, ◌+◌, ap, ◌∙◌, subst, rules, arith}
use Rattle.std.specs.Prelude.{vec_items, vec_len}
use Rattle.std.specs.declared.thread.PromisedHandle.{PromisedHandle}
use Rattle.std.specs.Vec.Iter.{into_iter_items}
use Rattle.sup_inbox.specs.Ends.{AreFrom, AreNew}
use Rattle.sup_crew.specs.declared.worker.Finished.{Finished}
use Rattle.sup_crew.specs.declared.worker.Works.{Works}
use Rattle.sup_crew.specs.Jobs.{permission}
use Rattle.sup_crew.proofs.Rows.{each_snoc}
use Rattle.sup_crew.proofs.worker.start.Goals as goal

pub loop-poster-preserved : goal.loop-poster-preserved
loop-poster-preserved g c =
    let i = c.loop-poster.invariant in
    let steps = c.in-Some.ensures.steps in
    let rows = subst (AreFrom c.args.crew.now.inbox.id (vec_len c.loop-poster.workers + 1)) steps.0 i.rows.0 in
    let new = subst AreNew steps.0 i.rows.1 in
    let kept = c.in-Ok-start_one.ensures.endpoint in
    let len = c.push_reserved.ensures.len in
    let was = c.loop-poster.workers.ok.0 in
    let is = c.push_reserved.new.self.ok.0 in
    let own = c.in-Ok-start_one.ensures.worker in
    let more : suc (vec_len c.loop-poster.workers + 1) ≡ vec_len c.push_reserved.new.self + 1 = omega (arith, len) in
    record {
      endpoint = (
        (λ k. record { queue = kept.0 k; permission = permission c.start_one.new.endpoint.permission.parts ((kept.2 ∙ ap (λ v. v.permission.put) i.endpoint.0) k) ((kept.3 ∙ ap (λ v. v.permission.taken) i.endpoint.0) k) }),
        omega (arith, kept.1, len, i.endpoint.1),
      );
      rows = (subst (λ n. AreFrom c.args.crew.now.inbox.id n (into_iter_items c.next.new.self)) more rows.2, new.1);
      len = search rules;
      each = λ k d low.
          each_snoc (λ (h : PromisedHandle (Finished g.row.N.Denot) (Works g.row.N.Denot g.row.B.Denot)) n. (h.promise.crew.now ≡ c.args.crew.now) × (h.promise.body.now ≡ c.args.body.now) × (h.promise.number ≡ n + 1))
          (vec_items c.loop-poster.workers) (vec_items c.push_reserved.new.self) c.in-Ok-start_one.worker c.push_reserved.ensures.items
          (λ j e below. i.each j e (omega (arith, was, below)))
          (own.0, own.1, own.2 ∙ rows.1 ∙ omega (arith, was))
          k d (omega (arith, is, low));
    }
