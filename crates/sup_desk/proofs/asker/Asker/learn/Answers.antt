-- The search is bound to what is named, so that a mutant is refused soon.
use Rattle.std.proofs.Common.{rules}
use Rattle.sup_desk.proofs.asker.Asker.learn.Goals as goal

pub returns-clause-learnt : goal.returns-clause-learnt
returns-clause-learnt g c = search rules

pub returns-clause-answered : goal.returns-clause-answered
returns-clause-answered g c = search rules
