-- The search is bound to what is named, so that a mutant is refused soon.
use Rattle.std.proofs.Common.{rules}
use Rattle.sup_live.proofs.yard.Yard+B+P+Alive+B+P.begin_started.Goals as goal

pub returns-in-Started-clause-account : goal.returns-in-Started-clause-account
returns-in-Started-clause-account g c = search rules
