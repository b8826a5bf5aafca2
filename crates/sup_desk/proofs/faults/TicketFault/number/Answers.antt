-- The search is bound to what is named, so that a mutant is refused soon.
use Rattle.std.proofs.Common.{rules}
use Rattle.sup_desk.proofs.faults.TicketFault.number.Goals as goal

pub returns-in-Split : goal.returns-in-Split
returns-in-Split c = search rules
