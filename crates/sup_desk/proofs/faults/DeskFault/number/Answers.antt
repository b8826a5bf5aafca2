-- The search is bound to what is named, so that a mutant is refused soon.
use Rattle.std.proofs.Common.{rules}
use Rattle.sup_desk.proofs.faults.DeskFault.number.Goals as goal

pub returns-in-BadTemplate : goal.returns-in-BadTemplate
returns-in-BadTemplate c = search rules
