use Rattle.std.proofs.Common.{◌≡◌, ◌+◌, ◌≤◌, [], ℕ, List, length}
use Rattle.sup_format.specs.Reading.HistoryReading.{IsReadTo}
use Rattle.sup_script.proofs.Running.Replaying.{IsReplayedTo}
use Rattle.sup_script.proofs.runs.replays.answer_from.Given as goal

abbrev pub invariant-loop-rest : goal.invariant-loop-rest
invariant-loop-rest g l = record {
  so_far : (text : List ℕ) → IsReadTo text l.fn.rest l.fn.sup.template [] 2 → IsReplayedTo text l.rest l.fn.sup.template l.outbox.bytes.items l.outbox.ends.items l.sup l.next;
  writer : l.outbox.writer.now ≡ l.initial.outbox.writer.now;
  same : l.outbox.writer.ghost_name ≡ l.initial.outbox.writer.ghost_name;
  template : l.sup.template ≡ l.fn.sup.template;
  few : l.next + length l.rest ≤ 2 + length l.fn.rest;
  few_ends : length l.outbox.ends.items + 2 ≡ l.next;
  few_steps : l.sup.steps + 2 ≡ l.next;
}

abbrev pub decreases-loop-rest : goal.decreases-loop-rest
decreases-loop-rest g l = length l.rest
