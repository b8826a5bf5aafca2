-- The argument at the place is no text.
use Rattle.std.proofs.lemmas.Grind.{common_steps}
use Rattle.std.proofs.Common.{arith, refl, inr, ap, sym, ◌∙◌, Some, option_map}
use Rattle.std.proofs.lemmas.Option.{slice_get-map, slice_get-get_or}
use Rattle.sup_crew.proofs.pool.read_arguments.Goals as goal

pub returns-in_default-clause-fault : goal.returns-in_default-clause-fault
returns-in_default-clause-fault g c = inr (c.loop-place.place, refl, (_, slice_get-map g.S.AsStr.text c.args.arguments.now c.loop-place.place ∙ ap (option_map g.S.AsStr.text) (slice_get-get_or _ _ _ c.loop-place-test.true ∙ ap Some (sym c.index-arguments-place.is)) ∙ ap Some (sym (c.as_bytes.ensures.value ∙ c.as_str.ensures)), c.in_default.ensures))

pub returns-clause-texts : goal.returns-clause-texts
returns-clause-texts g c = grind (arith, common_steps)
