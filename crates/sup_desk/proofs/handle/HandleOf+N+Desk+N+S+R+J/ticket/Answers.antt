-- The search is bound to what is named, so that a mutant is refused soon.
use Rattle.std.proofs.Common.{rules}
use Rattle.sup_desk.proofs.handle.HandleOf+N+Desk+N+S+R+J.ticket.Goals as goal

pub returns-clause-ticket : goal.returns-clause-ticket
returns-clause-ticket g c = search rules

pub returns-clause-own : goal.returns-clause-own
returns-clause-own g c = search rules
