use Rattle.sup_journal.proofs.Lines.{read_as}
use Rattle.sup_journal.proofs.laws.one_history.Goals as goal

pub returns : goal.returns
returns c = read_as c.one_value.ensures
