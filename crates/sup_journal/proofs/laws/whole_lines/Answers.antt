use Rattle.sup_journal.proofs.Lines.{whole_of_cut, stopped_short}
use Rattle.sup_journal.proofs.laws.whole_lines.Goals as goal

pub returns-clause-firsts : goal.returns-clause-firsts
returns-clause-firsts c = whole_of_cut c.whole_lines.ensures

pub returns-clause-not_all : goal.returns-clause-not_all
returns-clause-not_all c = stopped_short
