-- The search is bound to what is named, so that a mutant is refused soon.
use Rattle.std.proofs.Common.{rules}
use Rattle.sup_core.proofs.supervisor.Sup.remove.Goals as goal

pub returns-then-not-shuts_down-clause-reply : goal.returns-then-not-shuts_down-clause-reply
returns-then-not-shuts_down-clause-reply g c = search rules

pub returns-then-not-shuts_down-clause-next : goal.returns-then-not-shuts_down-clause-next
returns-then-not-shuts_down-clause-next g c = search rules
