-- The search is bound to what is named, so that a mutant is refused soon.
use Rattle.std.proofs.Common.{rules}
use Rattle.sup_live.proofs.yard.Yard+B+P+Alive+B+P.spawn.Goals as goal

pub exited-requires : goal.exited-requires
exited-requires g c = search rules
