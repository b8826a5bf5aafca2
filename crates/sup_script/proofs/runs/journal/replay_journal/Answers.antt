use Rattle.std.proofs.Common.{[], refl, inl, inr}
use Rattle.sup_script.proofs.Running.Journaling.{begun_stops, no_line, unread_stops}
use Rattle.sup_script.proofs.runs.journal.replay_journal.Goals as goal

pub returns-in-Ok-false : goal.returns-in-Ok-false
returns-in-Ok-false g c = record {
  journal = λ initial u.
      let found = rw c.in-Ok-false.field-0-test at c.in-Ok-false.ensures.found in
      rw c.in_line.ensures (unread_stops initial c.find_line.new.self _ _ _ (c.find_line.ensures.unread initial u) refl (inl (rw found.0 no_line)));
}

pub returns-in-Err : goal.returns-in-Err
returns-in-Err g c = record {
  journal = λ initial u.
      rw c.in_line-in-Err.ensures (unread_stops initial c.find_line.new.self _ _ _ (c.find_line.ensures.unread initial u) refl (inr c.in-Err.ensures.found.1));
}

pub returns-in-Err-begin : goal.returns-in-Err-begin
returns-in-Err-begin g c = record {
  journal = λ initial u.
      rw (c.in_line-in-Err-begin.ensures, c.in-Err-begin.ensures.err) (unread_stops initial c.find_line.new.self _ _ _ (c.find_line.ensures.unread initial u) refl (inl c.in-Err-begin.ensures.stops));
}

pub returns-in-Ok-new : goal.returns-in-Ok-new
returns-in-Ok-new g c = record {
  journal = λ initial u. c.answer_by.ensures.journal initial (rw c.in-Ok-new.ensures.1 (c.in-Ok.ensures.streamed initial [] c.find_line.new.self.ready (c.find_line.ensures.unread initial u) refl));
}

pub returns-in-Err-new : goal.returns-in-Err-new
returns-in-Err-new g c = record {
  journal = λ initial u.
      rw c.in_line-in-Err-new.ensures (begun_stops initial c.begin.new.self c.in-Ok.template _ _ _ (c.in-Ok.ensures.streamed initial [] c.find_line.new.self.ready (c.find_line.ensures.unread initial u) refl) refl refl);
}
