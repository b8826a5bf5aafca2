use Rattle.std.proofs.Common.{◌≡◌, ◌≤◌, take}
use Rattle.std.specs.VecDeque.{deque_len, deque_capacity}
use Rattle.sup_crew.specs.Exits.{exits}
use Rattle.sup_crew.proofs.drain.list_exits.Given as goal

abbrev pub invariant-loop-place : goal.invariant-loop-place
invariant-loop-place l = record {
  items : l.operations.items ≡ exits (take l.place l.held.items);
  room : (deque_len l.operations ≡ l.place) × (l.count ≤ deque_capacity l.operations);
}
