-- The last attempts of a window tell as much as all attempts.
use Rattle.std.proofs.Common.{◌≡◌, ℕ, zero, suc, ◌+◌, ◌-◌, ◌≤◌, ◌<◌, ◌⊎◌, inl, inr, List, [], ◌∷◌, ◌++◌, Bool, true, false, max, length, drop, sym, ap, ◌∙◌, arith, length-append, length-drop}
use Rattle.std.specs.Prelude.{nat_le, not, ◌&&◌, ◌==◌, slice_get}
use Rattle.std.specs.List.{fold, filter}
use Rattle.std.specs.List.Sorted.{IsNonDecreasing}
use Rattle.std.proofs.lemmas.Option.{slice_get_past}
use Rattle.circular_buffer.proofs.Places.{slice_get-drop, slice_get-some, slice_get-append_left, slice_get-last}
use Rattle.std.proofs.lemmas.Bool.{eq-eqb, le-leb, lt-leb, leb-true, cases_Bool, cond-true, cond-false, cases_lt, eqb-true, eqb-false, ne_eqb}
use Rattle.std.proofs.lemmas.List.Elements.{filter-append}
use Rattle.std.proofs.lemmas.List.Sums.{length-filter, count_by-le-length}
use Rattle.std.proofs.lemmas.List.Sorted.{IsNonDecreasingBy-drop}
use Rattle.sup_window.specs.Attempts.{still_counts, is_allowed, greatest, keep_last, remembered, Recent, HasSeen, with_attempt, front_counts, counts_at}
use Rattle.sup_window.specs.Last.{tail_above, all_pass, kept_count}
use Rattle.sup_window.specs.Laws.{rises-push, greatest-push, remembered-push, is_allowed-remembered}

pub seen-with_attempt : (window : Recent) (attempts : List ℕ) (moment : ℕ) → HasSeen window attempts
    → HasSeen (with_attempt window moment) (attempts ++ max (greatest attempts) moment ∷ [])
seen-with_attempt window attempts moment seen =
    let at = max (greatest attempts) moment in
    record {
      rising = rises-push attempts at seen.rising (omega arith);
      latest = let top : max (greatest attempts) at ≡ at = omega arith in ap (λ m. max m moment) seen.latest ∙ sym top ∙ sym (greatest-push attempts at);
      kept =
          ap (λ m. remembered window.intensity (window.moments ++ max m moment ∷ [])) seen.latest
          ∙ ap (λ l. remembered window.intensity (l ++ at ∷ [])) seen.kept
          ∙ remembered-push window.intensity attempts at;
    }

-- a window that has seen these attempts decides as all of them do
pub is_allowed-seen : (window : Recent) (attempts : List ℕ) (moment : ℕ) → HasSeen window attempts
    → is_allowed window.intensity window.period window.moments (max window.latest moment)
    ≡ is_allowed window.intensity window.period attempts (max (greatest attempts) moment)
is_allowed-seen window attempts moment seen =
    ap (λ l. is_allowed window.intensity window.period l (max window.latest moment)) seen.kept
    ∙ is_allowed-remembered window.intensity window.period attempts (max window.latest moment) seen.rising
    ∙ ap (λ m. is_allowed window.intensity window.period attempts (max m moment)) seen.latest

counted_le : (p : ℕ → Bool) (xs : List ℕ) → length (filter p xs) ≤ length xs
counted_le p xs = omega (arith, length-filter p xs, count_by-le-length p xs)

counted-push : (period at : ℕ) (xs : List ℕ) → length (filter (still_counts period at) (xs ++ at ∷ [])) ≡ length (filter (still_counts period at) xs) + 1
counted-push period at xs =
    let p = still_counts period at in
    ap length (filter-append p xs (at ∷ []) ∙ ap (λ l. filter p xs ++ l) (cond-true (p at) (at ∷ []) [] (le-leb at (at + period) (omega arith))))
    ∙ length-append (filter p xs) (at ∷ [])

-- a full ring decides by its oldest moment
full_decides : (intensity period at : ℕ) (xs ys : List ℕ) → IsNonDecreasing ys → length ys ≤ intensity + 1
    → (length (filter (still_counts period at) ys) ≡ length (filter (still_counts period at) xs) + 1)
    ⊎ ((intensity + 1 ≤ length (filter (still_counts period at) ys)) × (intensity + 1 ≤ length (filter (still_counts period at) xs) + 1))
    → nat_le (length (filter (still_counts period at) xs) + 1) intensity
    ≡ not ((length ys == intensity + 1) && front_counts period at (slice_get ys 0))
full_decides intensity period at xs [] rising short same =
    le-leb (length (filter (still_counts period at) xs) + 1) intensity (elim same [ inl e ↦ omega arith | inr (a, b) ↦ omega arith ])
    ∙ sym (ap (λ b. not (b && false)) (ne_eqb 0 (intensity + 1) (λ e. omega arith)))
full_decides intensity period at xs (y ∷ ys) rising short same =
    let p = still_counts period at in
    let heat_xs = length (filter p xs) + 1 in
    let up : (x y : ℕ) → x ≤ y → p x ≡ true → p y ≡ true =
    λ x y below passes. let low : at ≤ x + period = leb-true at (x + period) passes in le-leb at (y + period) (omega arith) in
    elim (cases_Bool (length (y ∷ ys) == intensity + 1)) [
      | inr shorter ↦
          let less : length (y ∷ ys) ≡ intensity + 1 → ⊥ = eqb-false (length (y ∷ ys)) (intensity + 1) shorter in
          let few = counted_le p (y ∷ ys) in
          le-leb heat_xs intensity (elim same [ inl e ↦ omega (arith, few, less) | inr (a, b) ↦ omega (arith, few, less) ])
          ∙ sym (ap (λ b. not (b && p y)) shorter)
      | inl full ↦
          let long : length (y ∷ ys) ≡ intensity + 1 = eqb-true (length (y ∷ ys)) (intensity + 1) full in
          elim (cases_Bool (p y)) [
            | inl counts ↦
                let rest = all_pass p up y ys (tail_above y ys rising) counts in
                let all : length (filter p (y ∷ ys)) ≡ intensity + 1 = ap length (cond-true (p y) (y ∷ filter p ys) (filter p ys) counts) ∙ ap suc rest ∙ long in
                lt-leb heat_xs intensity (elim same [ inl e ↦ omega arith | inr (a, b) ↦ omega arith ])
                ∙ sym (ap (λ b. not (b && p y)) full ∙ ap not counts)
            | inr past ↦
                let some : length (filter p (y ∷ ys)) ≡ length (filter p ys) = ap length (cond-false (p y) (y ∷ filter p ys) (filter p ys) past) in
                let few = counted_le p ys in
                le-leb heat_xs intensity (elim same [ inl e ↦ omega (arith, few) | inr (a, b) ↦ omega (arith, few) ])
                ∙ sym (ap (λ b. not (b && p y)) full ∙ ap not past)
          ]
    ]

-- what a window keeps after an attempt tells whether it is borne
pub is_allowed-full : (intensity period at : ℕ) (moments : List ℕ) → IsNonDecreasing moments → greatest moments ≤ at
    → is_allowed intensity period moments at
    ≡ not ((length (keep_last (intensity + 1) (moments ++ at ∷ [])) == intensity + 1) && front_counts period at (slice_get (keep_last (intensity + 1) (moments ++ at ∷ [])) 0))
is_allowed-full intensity period at moments rising low =
    let p = still_counts period at in
    let up : (x y : ℕ) → x ≤ y → p x ≡ true → p y ≡ true =
    λ x y below passes. let reach : at ≤ x + period = leb-true at (x + period) passes in le-leb at (y + period) (omega arith) in
    let all = moments ++ at ∷ [] in
    let rises = rises-push moments at rising low in
    let kept = keep_last (intensity + 1) all in
    let more = counted-push period at moments in
    ap (λ n. nat_le (n + 1) intensity) (sym (length-filter p moments))
    ∙ full_decides intensity period at moments kept (IsNonDecreasingBy-drop (λ m. m) (length all - (intensity + 1)) all rises)
    (omega (arith, length-drop (length all - (intensity + 1)) all))
    (elim (kept_count p up (intensity + 1) all rises) [ inl e ↦ inl (e ∙ more) | inr (a, b) ↦ inr (a, omega (arith, more)) ])

-- with as many, the moment that would then be the oldest decides
pub is_allowed-oldest : (intensity period at : ℕ) (moments : List ℕ) → IsNonDecreasing moments → greatest moments ≤ at → intensity ≤ length moments
    → length moments ≤ intensity + 1 → is_allowed intensity period moments at ≡ not (counts_at period at (slice_get moments (length moments - intensity)))
is_allowed-oldest intensity period at moments rising low many most =
    let all = moments ++ at ∷ [] in
    let kept = keep_last (intensity + 1) all in
    let long = length-append moments (at ∷ []) in
    let full : length kept ≡ intensity + 1 = omega (arith, many, most, long, length-drop (length all - (intensity + 1)) all) in
    let place : length moments - intensity ≡ (length all - (intensity + 1)) + 0 = omega (arith, long, many) in
    is_allowed-full intensity period at moments rising low
    ∙ ap (λ b. not (b && front_counts period at (slice_get kept 0))) (eq-eqb (length kept) (intensity + 1) full)
    ∙ ap (λ o. not (front_counts period at o)) (slice_get-drop (length all - (intensity + 1)) all 0 (length moments - intensity) place)
    ∙ ap not (oldest (cases_lt (length moments - intensity) (length moments)))
  where
    oldest : ((length moments - intensity) < length moments) ⊎ (length moments ≤ (length moments - intensity))
        → front_counts period at (slice_get (moments ++ at ∷ []) (length moments - intensity)) ≡ counts_at period at (slice_get moments (length moments - intensity))
    oldest (inl within) =
        let there = slice_get-some moments (length moments - intensity) within in
        ap (front_counts period at) (slice_get-append_left moments (at ∷ []) (length moments - intensity) within ∙ there.1)
        ∙ sym (ap (counts_at period at) there.1)
    oldest (inr past) =
        ap (front_counts period at) (slice_get-last moments at (length moments - intensity) (omega (arith, past)))
        ∙ le-leb at (at + period) (omega arith)
        ∙ sym (ap (counts_at period at) (slice_get_past moments (length moments - intensity) past))

greatest_from : (a b : ℕ) (xs : List ℕ) → a ≤ b → fold max a xs ≤ fold max b xs
greatest_from a b [] below = below
greatest_from a b (x ∷ xs) below = greatest_from (max a x) (max b x) xs (omega arith)

greatest-drop : (n : ℕ) (xs : List ℕ) → greatest (drop n xs) ≤ greatest xs
greatest-drop zero xs = omega arith
greatest-drop (suc n) [] = omega arith
greatest-drop (suc n) (x ∷ xs) = omega (arith, greatest-drop n xs, greatest_from 0 (max 0 x) xs (omega arith))

-- what a window keeps rises, and is not above its latest moment
pub kept_rises : (limit at : ℕ) (moments : List ℕ) → IsNonDecreasing moments → greatest moments ≤ at
    → IsNonDecreasing (keep_last limit (moments ++ at ∷ [])) × (greatest (keep_last limit (moments ++ at ∷ [])) ≤ at)
kept_rises limit at moments rising low =
    let all = moments ++ at ∷ [] in (
      IsNonDecreasingBy-drop (λ m. m) (length all - limit) all (rises-push moments at rising low),
      omega (arith, greatest-drop (length all - limit) all, greatest-push moments at),
    )
