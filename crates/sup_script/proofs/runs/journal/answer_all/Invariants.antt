use Rattle.std.proofs.Common.{◌≡◌, ◌+◌, ◌-◌, ◌≤◌, ◌^◌, ℕ, List, [], Option, length}
use Rattle.sup_format.specs.Reading.Streams.{IsStreamed}
use Rattle.sup_script.proofs.Running.Journaling.{IsAnswering}
use Rattle.sup_script.proofs.runs.journal.answer_all.Given as goal

abbrev pub invariant-loop-lines : goal.invariant-loop-lines
invariant-loop-lines g l = record {
  so_far : (initial : Option (List ℕ)) → IsStreamed initial l.fn.lines [] l.fn.sup.template []
      → IsAnswering initial l.lines l.fn.sup.template (g.W.Write.contents l.fn.outbox.writer.now.writer) (g.W.Write.contents l.outbox.writer.now.writer) l.outbox.bytes.items l.outbox.ends.items l.sup;
  same : l.outbox.writer.ghost_name ≡ l.fn.outbox.writer.ghost_name;
  template : l.sup.template ≡ l.fn.sup.template;
  few_ends : length l.outbox.ends.items + 2 ≤ l.lines.next;
  steps : l.sup.steps + 2 ≡ l.lines.next;
}

abbrev pub decreases-loop-lines : goal.decreases-loop-lines
decreases-loop-lines g l = 2 ^ 62 + 1 - l.lines.next
