use Rattle.std.proofs.Common.{refl}
use Rattle.sup_journal.proofs.Recording.{recorded_all, torn_off}
use Rattle.sup_journal.proofs.text_journal.TextJournalJournal.record.Goals as goal

pub returns-in-Ok-clause-ok : goal.returns-in-Ok-clause-ok
returns-in-Ok-clause-ok g c = λ template recorded ready h. (h.0, rw c.clear.ensures.items (recorded_all _ _ _ template recorded ready h.1 _ (rw c.as_slice.ensures.value at c.in-Ok.ensures)))

pub returns-in-Err-clause-err : goal.returns-in-Err-clause-err
returns-in-Err-clause-err g c = λ template recorded ready h. (refl, torn_off _ _ _ template recorded ready h.1 _ c.in-Err.end (rw c.as_slice.ensures.value at c.in-Err.ensures))
