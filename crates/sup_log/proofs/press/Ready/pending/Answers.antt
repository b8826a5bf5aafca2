-- The search is bound to what is named, so that a mutant is refused soon.
use Rattle.std.proofs.Common.{rules}
use Rattle.sup_log.proofs.press.Ready.pending.Goals as goal

pub returns-clause-items : goal.returns-clause-items
returns-clause-items c = search rules
