use Rattle.std.proofs.Common.{rules}
use Rattle.sup_script.proofs.Running.Journaling.{told}
use Rattle.sup_script.proofs.runs.journal.answer_by.Goals as goal

pub returns : goal.returns
returns g c = record {
  journal = λ initial s.
      let all = rw c.new-outbox.ensures.writer at (c.in_ok-outcome.ensures.answered initial s) in
      let done = told initial c.answer_all-outcome.new.lines c.args.sup.template c.answer_all-outcome.new.sup _ _ _ _ c.tell.result all (rw c.into_writer-writer.ensures.writer at c.tell.ensures) in
      search (rules, done);
}
