-- The search is bound to what is named, so that a mutant is refused soon.
use Rattle.std.proofs.Common.{rules}
use Rattle.sup_desk.proofs.recovery.RecoverFault.number.Goals as goal

pub returns-in-NoHandle : goal.returns-in-NoHandle
returns-in-NoHandle c = search rules
