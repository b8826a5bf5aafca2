use Rattle.std.proofs.Common.{◌≡◌, ◌+◌, ◌<◌, ◌≤◌, ℕ, List, length}
use Rattle.sup_format.specs.Reading.Texts.{lines_of}
use Rattle.sup_script.specs.Running.Answering.{IsAnsweredTo, steps_left}
use Rattle.sup_script.proofs.Running.LineByLine.{IsPartly}
use Rattle.sup_script.proofs.runs.session.Session.answer_lines.Given as goal

abbrev pub invariant-loop-rest : goal.invariant-loop-rest
invariant-loop-rest g l = record {
  so_far : (front : List (List ℕ)) (text : List ℕ) → IsAnsweredTo g.S.FixedStarter.answer front text l.initial.self.supervisor l.initial.self.next
      → IsPartly g.S.FixedStarter.answer front text (lines_of l.input) (lines_of l.rest) l.self.outbox.bytes.items l.self.outbox.ends.items l.self.supervisor (g.W.Write.contents l.initial.self.outbox.writer.now.writer) (g.W.Write.contents l.self.outbox.writer.now.writer) l.self.next;
  same : l.self.outbox.writer.ghost_name ≡ l.initial.self.outbox.writer.ghost_name;
  few_ends : length l.self.outbox.ends.items < l.self.next;
  few_lines : l.self.next + length l.rest ≤ l.initial.self.next + length l.input;
  few_steps : length l.rest ≤ steps_left l.self.supervisor;
  steps : steps_left l.initial.self.supervisor + length l.rest ≤ steps_left l.self.supervisor + length l.input;
}

abbrev pub decreases-loop-rest : goal.decreases-loop-rest
decreases-loop-rest g l = length l.rest
