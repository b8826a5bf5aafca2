use Rattle.std.proofs.Common.{refl, arith}
use Rattle.sup_types.specs.declared.template.Kind.TheVariants as value
use Rattle.sup_format.proofs.spelled.KindSpelled.values.Goals as goal

pub returns : goal.returns
returns c = elim [ value.Worker ↦ (0, omega arith, refl) | value.Supervisor ↦ (1, omega arith, refl) ]
