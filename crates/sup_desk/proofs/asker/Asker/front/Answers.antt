-- The search is bound to what is named, so that a mutant is refused soon.
use Rattle.std.proofs.Common.{rules}
use Rattle.sup_desk.proofs.asker.Asker.front.Goals as goal

pub returns-clause-front : goal.returns-clause-front
returns-clause-front g c = search rules
