-- The search is bound to what is named, so that a mutant is refused soon.
use Rattle.std.proofs.Common.{rules}
use Rattle.sup_core.proofs.supervisor.Sup.asked_again.Goals as goal

pub returns-then-not-would_allow : goal.returns-then-not-would_allow
returns-then-not-would_allow g c = search rules

pub returns : goal.returns
returns g c = search rules
