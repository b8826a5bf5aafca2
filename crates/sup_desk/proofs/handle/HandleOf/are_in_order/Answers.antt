-- The search is bound to what is named, so that a mutant is refused soon.
use Rattle.std.proofs.Common.{rules, arith}
use Rattle.std.proofs.lemmas.Grind.{common_steps}
use Rattle.sup_desk.proofs.handle.HandleOf.are_in_order.Goals as goal

pub returns-then-number-place : goal.returns-then-number-place
returns-then-number-place g c = search rules

pub loop-place-preserved : goal.loop-place-preserved
loop-place-preserved g c = grind (arith, common_steps)
