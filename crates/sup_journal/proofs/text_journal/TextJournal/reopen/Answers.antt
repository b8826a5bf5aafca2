use Rattle.std.proofs.Common.{refl}
use Rattle.sup_journal.proofs.Recording.{reopened}
use Rattle.sup_journal.proofs.text_journal.TextJournal.reopen.Goals as goal

pub returns-clause-has : goal.returns-clause-has
returns-clause-has g c = λ template entries holds. (refl, rw c.new.ensures.items (reopened _ _ _ _ holds))
