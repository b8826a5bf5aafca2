-- The report is that of the run.
use Rattle.sup_load.proofs.load.fn.Runner.beside_readers.scope.Goals as goal

pub returns : goal.returns
returns g c = c.sums_of.ensures.sums _ _ c.in_ok-report.ensures
