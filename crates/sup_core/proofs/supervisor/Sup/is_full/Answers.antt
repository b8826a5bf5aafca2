-- The search is bound to what is named, so that a mutant is refused soon.
use Rattle.std.proofs.Common.{rules}
use Rattle.sup_core.proofs.supervisor.Sup.is_full.Goals as goal

pub returns-clause-value : goal.returns-clause-value
returns-clause-value g c = search rules
