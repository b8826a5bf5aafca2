use Rattle.std.proofs.Common.{true, false, refl, arith}
use Rattle.sup_format.proofs.spelled.BoolSpelled.values.Goals as goal

pub returns : goal.returns
returns c = elim [ false ↦ (0, omega arith, refl) | true ↦ (1, omega arith, refl) ]
