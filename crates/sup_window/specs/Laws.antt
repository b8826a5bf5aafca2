-- The laws of attempts that other crates rest on: what a window remembers decides as all attempts do, and to remember one more it
-- needs no other.
use Rattle.std.specs.Prelude.{◌≡◌, ℕ, ◌+◌, ◌-◌, ◌≤◌, List, [], ◌∷◌, ◌++◌, max, length}
use Rattle.std.specs.List.Sorted.{IsNonDecreasing}
use Rattle.std.proofs.Common.{arith}
use Rattle.std.proofs.lemmas.List.Sums.{fold_push}
use Rattle.std.proofs.lemmas.List.Sorted.{IsNonDecreasingBy-push}
use Rattle.sup_window.specs.Attempts.{is_allowed, greatest, remembered}
use Rattle.sup_window.specs.Last.{keep_last-push, is_allowed-keep_last, below_greatest}

-- a moment that is no lower than the greatest keeps them rising
pub rises-push : (moments : List ℕ) (at : ℕ) → IsNonDecreasing moments → greatest moments ≤ at → IsNonDecreasing (moments ++ at ∷ [])
rises-push moments at rising above =
    IsNonDecreasingBy-push (λ m. m) moments at rising (λ d some. let low = (below_greatest 0 moments).1 (length moments - 1) d (omega arith) in omega (arith, low))

pub greatest-push : (moments : List ℕ) (at : ℕ) → greatest (moments ++ at ∷ []) ≡ max (greatest moments) at
greatest-push moments at = fold_push max 0 moments at

-- one more attempt: what was forgotten before is not missed
pub remembered-push : (intensity : ℕ) (attempts : List ℕ) (at : ℕ) → remembered intensity (remembered intensity attempts ++ at ∷ []) ≡ remembered intensity (attempts ++ at ∷ [])
unfolding remembered
remembered-push intensity attempts at = keep_last-push (intensity + 1) attempts at (omega arith)

-- what is remembered of rising attempts decides as all of them do
pub is_allowed-remembered : (intensity period : ℕ) (attempts : List ℕ) (at : ℕ) → IsNonDecreasing attempts
    → is_allowed intensity period (remembered intensity attempts) at ≡ is_allowed intensity period attempts at
unfolding remembered
is_allowed-remembered intensity period attempts at rising = is_allowed-keep_last intensity period attempts at rising
