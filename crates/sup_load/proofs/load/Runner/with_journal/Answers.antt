-- The counts are those of a history of the load's template.
use Rattle.sup_load.proofs.Counting.{of_template}
use Rattle.sup_load.proofs.load.Runner.with_journal.Goals as goal

pub returns : goal.returns
returns g c = of_template _ c.on_ground.result c.on_ground.ensures
