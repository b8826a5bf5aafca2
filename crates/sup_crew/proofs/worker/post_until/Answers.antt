-- The search is bound to what is named, so that a mutant is refused soon.
use Rattle.std.proofs.Common.{rules}
use Rattle.sup_crew.proofs.worker.post_until.Goals as goal

pub returns-in-Ok-clause-posted : goal.returns-in-Ok-clause-posted
returns-in-Ok-clause-posted g c = search rules

pub loop-preserved : goal.loop-preserved
loop-preserved g c = search rules

pub returns-clause-posted : goal.returns-clause-posted
returns-clause-posted g c = search rules
