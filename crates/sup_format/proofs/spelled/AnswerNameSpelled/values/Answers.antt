use Rattle.std.proofs.Common.{refl, arith}
use Rattle.sup_format.specs.declared.spelled.AnswerName.TheVariants as value
use Rattle.sup_format.proofs.spelled.AnswerNameSpelled.values.Goals as goal

pub returns : goal.returns
returns c = elim [ value.Running ↦ (0, omega arith, refl) | value.Ignore ↦ (1, omega arith, refl) | value.Failed ↦ (2, omega arith, refl) ]
