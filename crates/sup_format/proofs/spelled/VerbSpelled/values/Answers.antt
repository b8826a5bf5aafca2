use Rattle.std.proofs.Common.{refl, arith}
use Rattle.sup_format.specs.declared.spelled.Verb.TheVariants as value
use Rattle.sup_format.proofs.spelled.VerbSpelled.values.Goals as goal

pub returns : goal.returns
returns c = elim [ value.Start ↦ (0, omega arith, refl) | value.Exit ↦ (1, omega arith, refl) | value.Retry ↦ (2, omega arith, refl) | value.Terminate ↦ (3, omega arith, refl) | value.Stop ↦ (4, omega arith, refl) ]
