-- The search is bound to what is named, so that a mutant is refused soon.
use Rattle.std.proofs.Common.{rules}
use Rattle.sup_format.proofs.write.reply.append_reply.Goals as goal

pub returns-in-Restarted-clause-ok : goal.returns-in-Restarted-clause-ok
returns-in-Restarted-clause-ok g c = search rules
