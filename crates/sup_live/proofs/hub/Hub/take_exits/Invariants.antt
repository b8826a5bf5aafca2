use Rattle.std.proofs.Common.{◌≡◌, ◌≤◌, max}
use Rattle.std.specs.VecDeque.{deque_len, deque_capacity}
use mathlib.Core.List.{IsPrefix}
use Rattle.sup_live.proofs.hub.Hub.take_exits.Given as goal

abbrev pub invariant-loop-at : goal.invariant-loop-at
invariant-loop-at g l = record {
  kept : IsPrefix l.fn.held.items l.held.items;
  len : deque_len l.held ≤ max l.limit (deque_len l.fn.held);
  room : deque_capacity l.held ≡ deque_capacity l.fn.held;
}
