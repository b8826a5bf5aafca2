use Rattle.std.proofs.Common.{refl, arith}
use Rattle.sup_format.specs.declared.spelled.Query.TheVariants as value
use Rattle.sup_format.proofs.spelled.QuerySpelled.values.Goals as goal

pub returns : goal.returns
returns c = elim [ value.Which ↦ (0, omega arith, refl) | value.Count ↦ (1, omega arith, refl) | value.TerminateId ↦ (2, omega arith, refl) | value.DeleteChild ↦ (3, omega arith, refl) | value.RestartChild ↦ (4, omega arith, refl) ]
