-- The search is bound to what is named, so that a mutant is refused soon.
use Rattle.std.proofs.Common.{rules}
use Rattle.sup_format.proofs.write.outbox.whole_replies.Goals as goal

pub returns-in-Some : goal.returns-in-Some
returns-in-Some c = search rules
