use Rattle.std.proofs.Common.{ap, ◌∙◌}
use Rattle.sup_inbox.specs.Delivery.{known_by}
use Rattle.sup_inbox.proofs.Moves.{merges}
use Rattle.sup_inbox.specs.PostingLaws.{gathers, next_rows, next_lists}
use Rattle.sup_inbox.proofs.settling.gather.Goals as goal

pub absorb-requires-clause-rule : goal.absorb-requires-clause-rule
absorb-requires-clause-rule g c = merges _ _ _ _ (ap (λ v. v.takes) c.loop-poster.invariant.view) (ap (λ v. v.posts) c.poster.invariant.1)

pub loop-poster-preserved : goal.loop-poster-preserved
loop-poster-preserved g c =
    let i = c.loop-poster.invariant in
    let a = c.absorb.ensures in
    let v = known_by c.loop-poster.pass in
    let u = known_by c.poster.inside.pass in
    let w = known_by c.absorb.new.pass in
    let p = c.poster.invariant.1 in
    let steps = c.in-Some.ensures.steps.0 in
    record {
      pass = (a.queue.0 ∙ i.pass.0, a.queue.2 ∙ i.pass.1);
      view = gathers _ _ v u w i.view a.rule;
      rows = next_rows _ _ _ _ steps i.rows;
      lists = next_lists v u w _ _ _ a.rule steps (ap (λ v. v.poster) p ∙ ap (λ x. x.number) c.poster.view_is) (ap (λ x. x.posted) c.poster.view_is) ∙ i.lists;
    }
