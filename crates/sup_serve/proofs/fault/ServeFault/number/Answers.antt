-- The search is bound to what is named, so that a mutant is refused soon.
use Rattle.std.proofs.Common.{rules}
use Rattle.sup_serve.proofs.fault.ServeFault.number.Goals as goal

pub returns-in-Write : goal.returns-in-Write
returns-in-Write c = search rules
