use Rattle.std.proofs.Common.{refl, arith}
use Rattle.sup_types.specs.declared.template.AutoShutdown.TheVariants as value
use Rattle.sup_format.proofs.spelled.AutoShutdownSpelled.values.Goals as goal

pub returns : goal.returns
returns c = elim [ value.Never ↦ (0, omega arith, refl) | value.Any ↦ (1, omega arith, refl) | value.All ↦ (2, omega arith, refl) ]
