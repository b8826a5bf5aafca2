-- The search is bound to what is named, so that a mutant is refused soon.
use Rattle.std.proofs.Common.{rules}
use Rattle.sup_journal.proofs.flushing.Flush.is_due.Goals as goal

pub returns-in-EachBatch : goal.returns-in-EachBatch
returns-in-EachBatch c = search rules
