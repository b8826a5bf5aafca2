use Rattle.std.proofs.Common.{refl, arith}
use Rattle.sup_types.specs.declared.template.Restart.TheVariants as value
use Rattle.sup_format.proofs.spelled.RestartSpelled.values.Goals as goal

pub returns : goal.returns
returns c = elim [ value.Permanent ↦ (0, omega arith, refl) | value.Transient ↦ (1, omega arith, refl) | value.Temporary ↦ (2, omega arith, refl) ]
