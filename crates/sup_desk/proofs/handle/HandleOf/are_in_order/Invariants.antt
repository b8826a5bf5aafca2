use Rattle.std.proofs.Common.{◌≡◌, ℕ, ◌+◌, ◌<◌, slice_index_or}
use Rattle.sup_desk.specs.Knowledge.{Knowledge}
use Rattle.sup_desk.proofs.handle.HandleOf.are_in_order.Given as goal

-- so far they are in order
abbrev pub invariant-loop-place : goal.invariant-loop-place
invariant-loop-place g l = (k : ℕ) (d : Knowledge) → k < l.place → (slice_index_or l.handles k d).number ≡ k + 1
