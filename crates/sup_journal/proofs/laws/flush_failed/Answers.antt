use Rattle.sup_journal.proofs.Lines.{all_of_flush}
use Rattle.sup_journal.proofs.laws.flush_failed.Goals as goal

pub returns : goal.returns
returns c = all_of_flush
