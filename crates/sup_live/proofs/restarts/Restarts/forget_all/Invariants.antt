use Rattle.std.proofs.Common.{◌≡◌, ◌≤◌}
use Rattle.std.specs.VecDeque.{deque_len, deque_capacity}
use Rattle.sup_live.proofs.restarts.Restarts.forget_all.Given as goal

abbrev pub invariant-loop : goal.invariant-loop
invariant-loop g l = (deque_len l.self.retries ≤ deque_len l.fn.self.retries) × (deque_capacity l.self.retries ≡ deque_capacity l.fn.self.retries)
