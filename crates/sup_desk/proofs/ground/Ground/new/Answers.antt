-- The search is bound to what is named, so that a mutant is refused soon.
use Rattle.std.proofs.Common.{rules}
use Rattle.sup_desk.proofs.ground.Ground.new.Goals as goal

pub returns-then-handles-eq0-clause-range : goal.returns-then-handles-eq0-clause-range
returns-then-handles-eq0-clause-range g c = search rules
