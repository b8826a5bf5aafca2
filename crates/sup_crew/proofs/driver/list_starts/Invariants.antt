use Rattle.std.proofs.Common.{◌≡◌, ◌≤◌, length, take}
use Rattle.std.specs.VecDeque.{deque_len, deque_capacity}
use Rattle.sup_crew.specs.Calls.{starts_of}
use Rattle.sup_crew.proofs.driver.list_starts.Given as goal

abbrev pub invariant-loop-arg : goal.invariant-loop-arg
invariant-loop-arg l = record {
  items : l.starts.items ≡ starts_of (take l.arg-index l.args);
  room : (deque_len l.starts ≡ l.arg-index) × (length l.args ≤ deque_capacity l.starts);
}
