-- The search is bound to what is named, so that a mutant is refused soon.
use Rattle.std.proofs.Common.{rules}
use Rattle.sup_crew.proofs.pool.Pool.new.Goals as goal

pub returns-in-Ok-clause-pool : goal.returns-in-Ok-clause-pool
returns-in-Ok-clause-pool c = search rules

pub returns-in-Ok-clause-restarts : goal.returns-in-Ok-clause-restarts
returns-in-Ok-clause-restarts c = search rules
