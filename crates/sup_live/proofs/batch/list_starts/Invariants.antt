use Rattle.std.proofs.Common.{◌≡◌, ◌≤◌, take}
use Rattle.std.specs.VecDeque.{deque_len, deque_capacity}
use Rattle.sup_live.specs.Batches.{starts_of}
use Rattle.sup_live.proofs.batch.list_starts.Given as goal

abbrev pub invariant-loop-at : goal.invariant-loop-at
invariant-loop-at g l = record {
  items : l.operations.items ≡ starts_of (take l.at l.list.items);
  room : (deque_len l.operations ≡ l.at) × (deque_len l.list ≤ deque_capacity l.operations);
}
