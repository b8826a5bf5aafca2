-- The search is bound to what is named, so that a mutant is refused soon.
use Rattle.std.proofs.Common.{rules}
use Rattle.sup_core.proofs.supervisor.Sup.count.Goals as goal

pub returns-in-Worker : goal.returns-in-Worker
returns-in-Worker g c = search rules

pub returns-in-Supervisor : goal.returns-in-Supervisor
returns-in-Supervisor g c = search rules
