use Rattle.std.proofs.Common.{◌≡◌, ◌≤◌, ◌-◌, ◌++◌, max}
use Rattle.std.specs.VecDeque.{deque_len, deque_capacity}
use mathlib.Core.List.{IsPrefix}
use Rattle.sup_exits.proofs.queue.ExitQueue.give.Given as goal

abbrev pub invariant-giving : goal.invariant-giving
invariant-giving g l = record {
  moved : l.list.items ++ l.self.waiting.items ≡ l.fn.list.items ++ l.fn.self.waiting.items;
  kept : IsPrefix l.fn.list.items l.list.items;
  len : deque_len l.list ≤ max l.limit (deque_len l.fn.list);
  room : deque_capacity l.list ≡ deque_capacity l.fn.list;
  rooms : l.self.children ≡ l.fn.self.children;
}

abbrev pub decreases-giving : goal.decreases-giving
decreases-giving g l = l.limit - deque_len l.list
