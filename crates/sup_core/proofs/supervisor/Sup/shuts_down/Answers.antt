-- The search is bound to what is named, so that a mutant is refused soon.
use Rattle.std.proofs.Common.{rules}
use Rattle.sup_core.proofs.supervisor.Sup.shuts_down.Goals as goal

pub returns-in-Any : goal.returns-in-Any
returns-in-Any g c = search rules

pub returns-in-All : goal.returns-in-All
returns-in-All g c = search rules
