-- Attempts to restart, by their moments.
use Rattle.std.specs.Prelude.{◌≡◌, ℕ, ◌+◌, ◌-◌, true, false, Option, Some, None, List, [], ◌∷◌, ◌++◌, Bool, nat_le, max, drop, length, fold, count_by}
use Rattle.std.specs.List.Sorted.{IsNonDecreasing}

-- whether an attempt made at one moment still counts at another
abbrev pub still_counts : ℕ → ℕ → ℕ → Bool
still_counts period at made_at = nat_le at (made_at + period)

-- how many of the attempts count at a moment
abbrev pub attempts_within : ℕ → List ℕ → ℕ → ℕ
attempts_within period attempts at = count_by (still_counts period at) attempts

-- whether one more attempt at this moment is allowed
abbrev pub is_allowed : ℕ → ℕ → List ℕ → ℕ → Bool
is_allowed intensity period attempts at = nat_le (attempts_within period attempts at + 1) intensity

-- the greatest moment
abbrev pub greatest : List ℕ → ℕ
greatest moments = fold max 0 moments

-- the last n items
abbrev pub keep_last : {X : Type 0} → ℕ → List X → List X
keep_last n xs = drop (length xs - n) xs

-- the attempts that a window of this intensity still knows of, once it saw these. Which they are is the window's own affair:
-- other crates know them by the laws of `Laws` alone
unfoldable pub remembered : ℕ → List ℕ → List ℕ
remembered intensity attempts = keep_last (intensity + 1) attempts

-- what a window keeps: its two numbers, the greatest moment of an attempt, and the moments of those that it remembers
pub record Recent : Type 0 where
  pub intensity : ℕ
  pub period : ℕ
  pub latest : ℕ
  pub moments : List ℕ

-- the window has seen these attempts, whose moments do not fall
pub record HasSeen (window : Recent) (attempts : List ℕ) : Type 0 where
  pub rising : IsNonDecreasing attempts
  pub latest : window.latest ≡ greatest attempts
  pub kept : window.moments ≡ remembered window.intensity attempts

-- the window once it has seen one more attempt
abbrev pub with_attempt : Recent → ℕ → Recent
with_attempt window moment =
    let at = max window.latest moment in
    record {
      intensity = window.intensity;
      period = window.period;
      latest = at;
      moments = remembered window.intensity (window.moments ++ at ∷ []);
    }

-- whether a moment still counts; where there is none it is that of the attempt itself
abbrev pub counts_at : ℕ → ℕ → Option ℕ → Bool
counts_at period at None = true
counts_at period at (Some made_at) = still_counts period at made_at

-- whether there is an oldest moment, and it still counts
abbrev pub front_counts : ℕ → ℕ → Option ℕ → Bool
front_counts period at None = false
front_counts period at (Some oldest) = still_counts period at oldest
