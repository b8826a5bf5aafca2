use Rattle.std.proofs.Common.{◌+◌, ◌≤◌, length}
use Rattle.sup_format.specs.Reading.HistoryReading.{IsReadTo}
use Rattle.sup_format.proofs.read.history.read_history.Given as goal

abbrev pub invariant-loop-rest : goal.invariant-loop-rest
invariant-loop-rest g l = record {
  so_far : IsReadTo l.fn.text l.rest l.template l.entries.items l.line;
  few : l.line + length l.rest ≤ length l.fn.text + 2;
}

abbrev pub decreases-loop-rest : goal.decreases-loop-rest
decreases-loop-rest g l = length l.rest
