use Rattle.std.proofs.Common.{◌≡◌, ◌≤◌, take}
use Rattle.std.specs.VecDeque.{deque_len, deque_capacity}
use Rattle.sup_exits.specs.Exits.{operations_of}
use Rattle.sup_live.proofs.lead.list.Given as goal

abbrev pub invariant-loop-at : goal.invariant-loop-at
invariant-loop-at g l = record {
  items : l.operations.items ≡ operations_of (take l.at l.held.items);
  room : (deque_len l.operations ≡ l.at) × (l.count ≤ deque_capacity l.operations);
}
