use Rattle.sup_journal.proofs.laws.recorded_is_read.Goals as goal

pub returns : goal.returns
returns c = λ held contents waiting template recorded ready it. c.spelled_is_read.ensures it.text it.spelled.written recorded it.spelled.spelled
