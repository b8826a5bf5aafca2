-- The plan's children are the arguments, and the ground's template is the one given.
use Rattle.sup_crew.proofs.Pooling.{of_pool}
use Rattle.sup_crew.proofs.pool.Pool.run.Goals as goal

pub returns-clause-pool : goal.returns-clause-pool
returns-clause-pool g c = of_pool _ _ _ _ _ _ c.in-Ok.ensures.ok.0 c.in_ok-read_arguments.ensures.texts c.run_named.ensures.pool
