use Rattle.sup_journal.proofs.Openings.{wrong_line}
use Rattle.sup_journal.proofs.opening.fault_of.Goals as goal

pub returns-in-BadTemplate : goal.returns-in-BadTemplate
returns-in-BadTemplate g c = λ text template handles p.
    wrong_line text template c.line-line.result handles c.args.lines.now.has_failed c.args.fault c.in-BadTemplate.is (rw c.line-line.ensures.line p)
