-- The search is bound to what is named, so that a mutant is refused soon.
use Rattle.std.proofs.Common.{arith}
use Rattle.std.proofs.lemmas.Grind.{common_steps}
use Rattle.sup_log.proofs.press.Ready.retract.Goals as goal

pub returns : goal.returns
returns c = grind (arith, common_steps)
