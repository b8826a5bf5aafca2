-- Which loads there are.
use Rattle.std.specs.Prelude.{ℕ, ◌≤◌}

-- the ranges of the numbers of a load
abbrev pub IsWithin : ℕ → ℕ → ℕ → ℕ → Type 0
IsWithin workers children readers turns =
    (1 ≤ workers) × (workers ≤ 64) × (1 ≤ children) × (children ≤ 65536) × (readers ≤ 64) × (1 ≤ turns) × (turns ≤ 1000000)
