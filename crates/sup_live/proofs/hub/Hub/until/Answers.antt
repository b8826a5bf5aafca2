-- The search is bound to what is named, so that a mutant is refused soon.
use Rattle.std.proofs.Common.{rules}
use Rattle.sup_live.proofs.hub.Hub.until.Goals as goal

pub returns : goal.returns
returns g c = search rules
