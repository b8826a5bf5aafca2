-- The search is bound to what is named, so that a mutant is refused soon.
use Rattle.std.proofs.Common.{rules}
use Rattle.sup_journal.proofs.text_journal.TextJournal.with_flush.Goals as goal

pub returns-clause-flush : goal.returns-clause-flush
returns-clause-flush g c = search rules
