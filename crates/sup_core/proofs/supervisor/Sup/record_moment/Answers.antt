-- The search is bound to what is named, so that a mutant is refused soon.
use Rattle.std.proofs.Common.{rules}
use Rattle.sup_core.proofs.supervisor.Sup.record_moment.Goals as goal

pub invariant_of-self : goal.invariant_of-self
invariant_of-self g c = search rules

pub returns-clause-next : goal.returns-clause-next
returns-clause-next g c = search rules
