-- The report is that of the run.
use Rattle.std.proofs.Common.{refl, arith}
use Rattle.sup_crew.proofs.Pooling.{few_ended, pooled}
use Rattle.sup_crew.proofs.pool.run_named.Goals as goal

pub overflow_sub-result : goal.overflow_sub-result
overflow_sub-result g c = few_ended _ _ _ _ _ _ _ c.in-Ok-run_crew_with.report c.in-Ok-run_crew_with.ensures.ran

pub returns-clause-pool : goal.returns-clause-pool
returns-clause-pool g c =
    let few = few_ended _ _ _ _ _ _ _ c.in-Ok-run_crew_with.report c.in-Ok-run_crew_with.ensures.ran in
    pooled _ _ _ _ _ _ _ c.in-Ok-run_crew_with.report _ c.in-Ok-run_crew_with.ensures.ran c.in-Ok.ensures.0 c.in_default-fault.is (omega (arith, few)) refl refl refl refl
