-- The search is bound to what is named, so that a mutant is refused soon.
use Rattle.std.proofs.Common.{rules}
use Rattle.sup_crew.proofs.pool.Pool.with_template.Goals as goal

pub returns-then-not-contains-clause-workers : goal.returns-then-not-contains-clause-workers
returns-then-not-contains-clause-workers c = search rules
