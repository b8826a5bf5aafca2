-- The last of some attempts, and how many of them count.
use Rattle.std.specs.Prelude.{◌≡◌, ℕ, zero, suc, ◌+◌, ◌-◌, ◌≤◌, ◌<◌, ◌⊎◌, List, [], ◌∷◌, ◌++◌, Bool, true, nat_le, max, length, drop, get_or, refl}
use Rattle.std.specs.List.{fold, filter}
use Rattle.std.specs.List.Sorted.{IsNonDecreasing}
use Rattle.std.proofs.Common.{inl, inr, sym, ap, ◌∙◌, arith, length-append}
use Rattle.std.proofs.lemmas.Bool.{le-leb, lt-leb, leb-true, cases_Bool, cond-true, cond-false, cases_lt}
use Rattle.std.proofs.lemmas.List.Sums.{length-filter}
use Rattle.std.proofs.lemmas.List.Sorted.{IsNonDecreasingBy-drop}
use Rattle.sup_window.specs.Attempts.{still_counts, attempts_within, is_allowed, keep_last}

pub keep_last-short : {X : Type 0} (n : ℕ) (xs : List X) → length xs ≤ n → keep_last n xs ≡ xs
keep_last-short n xs short = let none : length xs - n ≡ 0 = omega arith in ap (λ k. drop k xs) none

pub keep_last-cons : {X : Type 0} (n : ℕ) (x : X) (xs : List X) → n ≤ length xs → keep_last n (x ∷ xs) ≡ keep_last n xs
keep_last-cons n x xs long = let one_more : suc (length xs) - n ≡ suc (length xs - n) = omega arith in ap (λ k. drop k (x ∷ xs)) one_more

-- what is added last pushes out only what would go anyhow
pub keep_last-push : {X : Type 0} (n : ℕ) (xs : List X) (y : X) → 1 ≤ n → keep_last n (keep_last n xs ++ y ∷ []) ≡ keep_last n (xs ++ y ∷ [])
keep_last-push {X} n [] y some = ap (λ (l : List X). keep_last n (l ++ y ∷ [])) (keep_last-short n [] (omega arith))
keep_last-push n (x ∷ xs) y some = elim (cases_lt (length xs) n) [
  | inl short ↦ ap (λ l. keep_last n (l ++ y ∷ [])) (keep_last-short n (x ∷ xs) (omega arith))
  | inr long ↦
      let more : n ≤ length (xs ++ y ∷ []) = omega (arith, length-append xs (y ∷ [])) in
      ap (λ l. keep_last n (l ++ y ∷ [])) (keep_last-cons n x xs long)
      ∙ keep_last-push n xs y some
      ∙ sym (keep_last-cons n x (xs ++ y ∷ []) more)
]

tail_rises : (x : ℕ) (xs : List ℕ) → IsNonDecreasing (x ∷ xs) → IsNonDecreasing xs
tail_rises x xs h = IsNonDecreasingBy-drop (λ y. y) 1 (x ∷ xs) h

pub tail_above : (x : ℕ) (xs : List ℕ) → IsNonDecreasing (x ∷ xs) → (i : ℕ) → i < length xs → x ≤ get_or xs i 0
tail_above x xs h i l = h 0 (suc i) 0 (omega arith) (omega arith)

module _ (p : ℕ → Bool) (up : (x y : ℕ) → x ≤ y → p x ≡ true → p y ≡ true) where
  -- where the first number passes, all do
  pub all_pass : (x : ℕ) (xs : List ℕ) → ((i : ℕ) → i < length xs → x ≤ get_or xs i 0) → p x ≡ true → length (filter p xs) ≡ length xs
  all_pass x [] above passes = refl
  all_pass x (y ∷ ys) above passes =
      let first : x ≤ y = above 0 (omega arith) in
      ap length (cond-true (p y) (y ∷ filter p ys) (filter p ys) (up x y first passes))
      ∙ ap suc (all_pass x ys (λ i l. above (suc i) (omega arith)) passes)

  -- of the last n numbers as many pass as of all, or of both n or more
  pub kept_count : (n : ℕ) (xs : List ℕ) → IsNonDecreasing xs
      → (length (filter p (keep_last n xs)) ≡ length (filter p xs))
      ⊎ ((n ≤ length (filter p (keep_last n xs))) × (n ≤ length (filter p xs)))
  kept_count n [] h = inl (ap (λ l. length (filter p l)) (keep_last-short n [] (omega arith)))
  kept_count n (x ∷ xs) h = elim (cases_lt (length xs) n) [
    | inl short ↦ inl (ap (λ l. length (filter p l)) (keep_last-short n (x ∷ xs) (omega arith)))
    | inr long ↦
        let same : length (filter p (keep_last n (x ∷ xs))) ≡ length (filter p (keep_last n xs)) =
        ap (λ l. length (filter p l)) (keep_last-cons n x xs long) in
        let rest : (length (filter p (keep_last n xs)) ≡ length (filter p xs))
        ⊎ ((n ≤ length (filter p (keep_last n xs))) × (n ≤ length (filter p xs))) = kept_count n xs (tail_rises x xs h) in
        elim (cases_Bool (p x)) [
          | inl passes ↦
              let all : length (filter p xs) ≡ length xs = all_pass x xs (tail_above x xs h) passes in
              let more : length (filter p (x ∷ xs)) ≡ suc (length (filter p xs)) = ap length (cond-true (p x) (x ∷ filter p xs) (filter p xs) passes) in
              elim rest [ inl e ↦ inr (omega arith, omega arith) | inr (a, b) ↦ inr (omega arith, omega arith) ]
          | inr fails ↦
              let fewer : length (filter p (x ∷ xs)) ≡ length (filter p xs) = ap length (cond-false (p x) (x ∷ filter p xs) (filter p xs) fails) in
              elim rest [ inl e ↦ inl (same ∙ e ∙ sym fewer) | inr (a, b) ↦ inr (omega arith, omega arith) ]
        ]
  ]

-- the last attempts, one more than are borne, decide as all attempts do
pub is_allowed-keep_last : (intensity period : ℕ) (attempts : List ℕ) (at : ℕ) → IsNonDecreasing attempts
    → is_allowed intensity period (keep_last (intensity + 1) attempts) at ≡ is_allowed intensity period attempts at
is_allowed-keep_last intensity period attempts at rising =
    let p = still_counts period at in
    let up : (x y : ℕ) → x ≤ y → p x ≡ true → p y ≡ true =
    λ x y below passes. let low : at ≤ x + period = leb-true at (x + period) passes in le-leb at (y + period) (omega arith) in
    let few = length-filter p (keep_last (intensity + 1) attempts) in
    let all = length-filter p attempts in
    elim (kept_count p up (intensity + 1) attempts rising) [
      | inl e ↦ ap (λ n. nat_le (n + 1) intensity) (sym few ∙ e ∙ all)
      | inr (a, b) ↦
          lt-leb (attempts_within period (keep_last (intensity + 1) attempts) at + 1) intensity (omega arith)
          ∙ sym (lt-leb (attempts_within period attempts at + 1) intensity (omega arith))
    ]

-- no moment is above the greatest
pub below_greatest : (a : ℕ) (xs : List ℕ) → (a ≤ fold max a xs) × ((i : ℕ) (d : ℕ) → i < length xs → get_or xs i d ≤ fold max a xs)
below_greatest a [] = (omega arith, λ i d l. absurd (omega arith))
below_greatest a (x ∷ xs) =
    let rest : (max a x ≤ fold max (max a x) xs) × ((i : ℕ) (d : ℕ) → i < length xs → get_or xs i d ≤ fold max (max a x) xs) = below_greatest (max a x) xs in
    (omega (arith, rest.0), each a x xs rest)
  where
    each : (a x : ℕ) (xs : List ℕ) → (max a x ≤ fold max (max a x) xs) × ((i : ℕ) (d : ℕ) → i < length xs → get_or xs i d ≤ fold max (max a x) xs)
        → (i : ℕ) (d : ℕ) → i < length (x ∷ xs) → get_or (x ∷ xs) i d ≤ fold max (max a x) xs
    each a x xs rest zero d l = omega (arith, rest.0)
    each a x xs rest (suc i) d l = rest.1 i d (omega arith)
