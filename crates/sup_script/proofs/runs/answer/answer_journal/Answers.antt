-- Nothing was read before.
use Rattle.std.proofs.Common.{inr, subst, sym}
use Rattle.sup_format.specs.Reading.Streams.{IsUnread}
use Rattle.sup_format.specs.StreamLaws.{unread_new}
use Rattle.sup_script.proofs.runs.answer.answer_journal.Goals as goal

pub returns : goal.returns
returns g c = inr (
  _,
  (
    c.replay_journal-outcome.new.lines,
    c.replay_journal-outcome.result,
    c.replay_journal-outcome.ensures.journal _ (subst (IsUnread _) (sym c.new-lines.ensures) (unread_new _ c.new.result.has_failed)),
    c.tell.ensures,
  ),
)
