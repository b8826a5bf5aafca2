-- The outcome is that of the run or of the replay.
use Rattle.sup_script.proofs.runs.answer.answer_text.Goals as goal
use Rattle.sup_script.proofs.runs.answer.answer_text.Goals.{in-Script, in-History}

pub returns : goal.returns
returns g c = elim c.match-format.branch [
  | in-Script w ↦ rw (w.in-Script.is, w.reader-is, w.out-is) (record { outcome = w.run-outcome.result; run = w.run-outcome.ensures.run; cause = w.run-outcome.ensures.cause; status_is = rw w.outcome-is at c.tell.ensures })
  | in-History w ↦ rw (w.in-History.is, w.reader-is, w.out-is) (record { outcome = w.replay-outcome.result; replay = w.replay-outcome.ensures.replay; cause = w.replay-outcome.ensures.cause; status_is = rw w.outcome-is at c.tell.ensures })
]
