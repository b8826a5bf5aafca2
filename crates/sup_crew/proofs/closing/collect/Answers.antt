use Rattle.std.proofs.Common.{◌∷◌, [], ◌++◌, append_assoc, append-nil, sym, ap, ◌∙◌, subst, arith}
use Rattle.std.specs.Prelude.{vec_items}
use Rattle.std.specs.Vec.Iter.{into_iter_items}
use Rattle.sup_crew.specs.Joins.{AreEndpoints, posters_of, taken_of, unposted_of, note_in}
use Rattle.sup_crew.proofs.Sums.{note_is}
use Rattle.sup_crew.proofs.closing.collect.Goals as goal

pub loop-one-preserved : goal.loop-one-preserved
loop-one-preserved g c =
    let i = c.loop-one.invariant in
    let steps = c.in-Some.ensures.steps in
    let endpoints = subst (AreEndpoints c.args.jobs.now) steps.0 i.endpoints in
    let one = c.in-Some.one in
    let rest = into_iter_items c.next.new.self in
    let old = c.loop-one.endpoint.permission in
    let outcome = c.join.ensures in
    let parts = ap (λ v. v.permission.parts) outcome in
    let pushed = c.push_reserved.ensures in
    let kept = c.in-Ok.ensures in
    let note = note_is one.unposted c.as_slice.result.now c.as_slice.ensures in
    record {
      endpoint = (
        ap (λ v. v.queue) outcome,
        (let n = i.endpoint.1 in let p = endpoints.1 in let s = steps.1 in omega (arith, n, p, s, parts)),
        ap (λ v. v.permission.put) outcome ∙ ap (λ l. old.put ++ l) endpoints.2 ∙ append-nil old.put ∙ i.endpoint.2,
        (let p = i.endpoint.3 in omega (arith, p, parts)),
      );
      taken = ap (λ v. v.permission.taken ++ taken_of rest) outcome ∙ append_assoc old.taken one.endpoint.permission.taken (taken_of rest) ∙ ap (λ l. old.taken ++ taken_of l) (sym steps.0) ∙ i.taken;
      endpoints = endpoints.3;
      posters = ap (λ l. l ++ posters_of rest) pushed.items ∙ append_assoc (vec_items c.loop-one.posters) (one.poster ∷ []) (posters_of rest) ∙ ap (λ l. vec_items c.loop-one.posters ++ posters_of l) (sym steps.0) ∙ i.posters;
      unposted = ap (λ l. l ++ unposted_of rest) (kept.items ∙ ap (λ l. vec_items c.loop-one.unposted ++ l) note.0) ∙ append_assoc (vec_items c.loop-one.unposted) (note_in one.unposted) (unposted_of rest) ∙ ap (λ l. vec_items c.loop-one.unposted ++ unposted_of l) (sym steps.0) ∙ i.unposted;
      room = (
        (let r = i.room.0 in let s = steps.1 in let l = pushed.len in let k = pushed.capacity in omega (arith, r, s, l, k)),
        (let r = i.room.1 in let s = steps.1 in let l = kept.len in let k = kept.capacity in let n = note.1 in omega (arith, r, s, l, k, n)),
      );
    }
