-- The search is bound to what is named, so that a mutant is refused soon.
use Rattle.std.proofs.Common.{rules}
use Rattle.sup_crew.proofs.fault.CrewFault.number.Goals as goal

pub returns-in-NoPlace : goal.returns-in-NoPlace
returns-in-NoPlace c = search rules
