-- The notes of each poster among a list, and how many they are together.
use Rattle.std.proofs.Common.{◌≡◌, ◌≢◌, ℕ, zero, suc, ◌+◌, ◌<◌, ◌≤◌, Bool, true, false, cond, eq-eqb, ne_eqb, List, [], ◌∷◌, ◌++◌, length, refl, sym, ap, ◌∙◌, subst, arith}
use Rattle.std.specs.Prelude.{◌==◌, All, slice_index_or}
use Rattle.std.specs.List.{Any, Contains}
use native.Mathlib.Decide.{dec_le, ℕ_discrete}
use mathlib.Core.Logic.{dite}
use Rattle.sup_inbox.specs.declared.note.Note.{Note}
use Rattle.sup_inbox.specs.declared.rule.Sent.{Sent}
use Rattle.sup_inbox.specs.Delivery.{from, total, sum_of, sum_idle, AreSent}
use Rattle.sup_inbox.specs.Ends.{IsBy}

cond_append : (b : Bool) (n : Note) (xs ys zs : List Note) → zs ≡ xs ++ ys → cond b (n ∷ zs) zs ≡ cond b (n ∷ xs) xs ++ ys
cond_append true n xs ys zs e = ap (λ l. n ∷ l) e
cond_append false n xs ys zs e = e

pub from-append : (xs ys : List Note) (w : ℕ) → from (xs ++ ys) w ≡ from xs w ++ from ys w
from-append [] ys w = refl
from-append (n ∷ ns) ys w = cond_append (n.poster == w) n (from ns w) (from ys w) (from (ns ++ ys) w) (from-append ns ys w)

pub from-own : (x : Note) (xs : List Note) (w : ℕ) → x.poster ≡ w → from (x ∷ xs) w ≡ x ∷ from xs w
from-own x xs w e = ap (λ b. cond b (x ∷ from xs w) (from xs w)) (eq-eqb x.poster w e)

pub from-other : (x : Note) (xs : List Note) (w : ℕ) → x.poster ≢ w → from (x ∷ xs) w ≡ from xs w
from-other x xs w e = ap (λ b. cond b (x ∷ from xs w) (from xs w)) (ne_eqb x.poster w e)

-- how many notes are by the posters 1 to n
abbrev pub count_to : List Note → ℕ → ℕ
count_to xs zero = 0
count_to xs (suc n) = count_to xs n + length (from xs (suc n))

pub count-past : (m : ℕ) (x : Note) (xs : List Note) → m < x.poster → count_to (x ∷ xs) m ≡ count_to xs m
count-past zero x xs h = refl
count-past (suc m) x xs h = λ i. count-past m x xs (omega arith) i + length (from-other x xs (suc m) (λ e. omega (arith, e)) i)

pub count-in : (m : ℕ) (x : Note) (xs : List Note) → 1 ≤ x.poster → x.poster ≤ m → count_to (x ∷ xs) m ≡ suc (count_to xs m)
count-in zero x xs one h = absurd (omega arith)
count-in (suc m) x xs one h =
    dite (ℕ_discrete x.poster (suc m))
    (λ e. let p = count-past m x xs (omega (arith, e)) in let q = ap (λ (l : List Note). length l) (from-own x xs (suc m) e) in omega (arith, p, q))
    (λ n. let p = count-in m x xs one (omega (arith, n)) in let q = ap (λ (l : List Note). length l) (from-other x xs (suc m) n) in omega (arith, p, q))

-- each note is by one of the posters 1 to n
abbrev pub AllBy : ℕ → List Note → Type 0
AllBy n [] = Unit {0}
AllBy n (x ∷ xs) = IsBy n x × AllBy n xs

pub all_by : (n : ℕ) (xs : List Note) → AllBy n xs → All (IsBy n) xs
all_by n [] h k d low = absurd (omega arith)
all_by n (x ∷ xs) h zero d low = h.0
all_by n (x ∷ xs) h (suc k) d low = all_by n xs h.1 k d (omega arith)

own_some : (x : Note) (xs : List Note) → from (x ∷ xs) x.poster ≢ []
own_some x xs e = let h = ap (λ (l : List Note). length l) (sym (from-own x xs x.poster refl) ∙ e) in omega (arith, h)

pub by_from : (n : ℕ) (xs : List Note) → from xs 0 ≡ [] → ((w : ℕ) → n < w → from xs w ≡ []) → AllBy n xs
by_from n [] none later = tt
by_from n (x ∷ xs) none later =
    let zeroth : x.poster ≢ 0 = λ e. own_some x xs (subst (λ w. from (x ∷ xs) w ≡ []) (sym e) none) in
    let past : x.poster ≤ n = dite (dec_le x.poster n) (λ h. h) (λ h. absurd (own_some x xs (later x.poster (omega (arith, h))))) in
    ((omega (arith, zeroth), past), by_from n xs (sym (from-other x xs 0 zeroth) ∙ none) (λ w h. sym (from-other x xs w (λ e. omega (arith, e))) ∙ later w h))

-- where each note is by one of the posters, they are all the notes
pub count-all : (n : ℕ) (xs : List Note) → AllBy n xs → count_to xs n ≡ length xs
count-all n [] h = none n
  where
    none : (n : ℕ) → count_to [] n ≡ 0
    none zero = refl
    none (suc n) = let h = none n in omega (arith, h)
count-all n (x ∷ xs) h = count-in n x xs h.0.0 h.0.1 ∙ ap suc (count-all n xs h.1)

-- how many of the posters 1 to n have no pass
sum_idle-most : (places : ℕ → ℕ) (n : ℕ) → sum_idle places (λ _. 1) n ≤ n
sum_idle-most places zero = omega arith
sum_idle-most places (suc n) = more (places (suc n) == 0) (sum_idle places (λ _. 1) n) n (sum_idle-most places n)
  where
    more : (b : Bool) (s n : ℕ) → s ≤ n → s + cond b 1 0 ≤ suc n
    more true s n h = omega (arith, h)
    more false s n h = omega (arith, h)

both_idle : (b : Bool) (s n : ℕ) → s ≤ n → s + cond b 1 0 ≡ suc n → (b ≡ true) × (s ≡ n)
both_idle true s n h e = (refl, omega (arith, h, e))
both_idle false s n h e = absurd (omega (arith, h, e))

-- where none of the posters 1 to n has a pass, all their notes are counted
count-idle : (places : ℕ → ℕ) (xs : List Note) (n : ℕ) → sum_idle places (λ _. 1) n ≡ n → count_to xs n ≡ sum_idle places (λ w. length (from xs w)) n
count-idle places xs zero e = refl
count-idle places xs (suc n) e =
    let h = both_idle (places (suc n) == 0) (sum_idle places (λ _. 1) n) n (sum_idle-most places n) e in
    let last = ap (λ b. cond b (length (from xs (suc n))) 0) h.0 in
    let less = count-idle places xs n h.1 in
    omega (arith, less, last)

sum_of-one : (ss : List Sent) → sum_of (λ _. 1) ss ≡ length ss
sum_of-one [] = refl
sum_of-one (s ∷ ss) = let r = sum_of-one ss in omega (arith, r)

total-sent : (notes : List Note) (ss : List Sent) → AreSent notes ss → sum_of (λ w. length (from notes w)) ss ≡ total ss
total-sent notes [] h = refl
total-sent notes (s ∷ ss) h = λ i. length (h.0 i) + total-sent notes ss h.1 i

-- where these are all the posters 1 to n, each once, there are as many notes as they posted
pub counts : (places : ℕ → ℕ) (n : ℕ) (xs : List Note) (ss : List Sent) → length ss ≡ n → ((f : ℕ → ℕ) → sum_idle places f n ≡ sum_of f ss) → AreSent xs ss → from xs 0 ≡ [] → ((w : ℕ) → n < w → from xs w ≡ []) → length xs ≡ total ss
counts places n xs ss len once each none later =
    let all = once (λ _. 1) ∙ sum_of-one ss ∙ len in
    sym (count-all n xs (by_from n xs none later)) ∙ count-idle places xs n all ∙ once (λ w. length (from xs w)) ∙ total-sent xs ss each

-- where none of the posters 1 to n has a pass, each of them is counted
idle_at : (places f : ℕ → ℕ) (n w : ℕ) → sum_idle places (λ _. 1) n ≡ n → 1 ≤ w → w ≤ n → f w ≤ sum_idle places f n
idle_at places f zero w e first high = absurd (omega (arith, first, high))
idle_at places f (suc n) w e first high =
    let h = both_idle (places (suc n) == 0) (sum_idle places (λ _. 1) n) n (sum_idle-most places n) e in
    let last = ap (λ b. cond b (f (suc n)) 0) h.0 in
    dite (ℕ_discrete w (suc n)) (λ s. let same = ap f s in omega (arith, last, same)) (λ d. let less = idle_at places f n w h.1 first (omega (arith, d, high)) in omega (arith, less))

-- one of these is of this poster
member : (ss : List Sent) (w : ℕ) → 1 ≤ sum_of (λ x. cond (x == w) 1 0) ss → Any (λ s. s.poster ≡ w) ss
member [] w h = absurd (omega (arith, h))
member (s ∷ ss) w h =
    dite (ℕ_discrete s.poster w)
    (λ e. (0, s, omega arith, refl, e))
    (λ n.
    let none = ap {B = ℕ} (λ b. cond b 1 0) (ne_eqb s.poster w n) in
    let m = member ss w (omega (arith, h, none)) in
    (suc m.0, m.1, omega (arith, m.2), m.3, m.4))

-- where these are all the posters 1 to n, each once, each of them is among these
pub members : (places : ℕ → ℕ) (n : ℕ) (ss : List Sent) → length ss ≡ n → ((f : ℕ → ℕ) → sum_idle places f n ≡ sum_of f ss) → (w : ℕ) → 1 ≤ w → w ≤ n → Any (λ s. s.poster ≡ w) ss
members places n ss len once w first high =
    let all = once (λ _. 1) ∙ sum_of-one ss ∙ len in
    let least = idle_at places (λ x. cond (x == w) 1 0) n w all first high in
    let own = ap {B = ℕ} (λ b. cond b 1 0) (eq-eqb w w refl) in
    let same = once (λ x. cond (x == w) 1 0) in
    member ss w (omega (arith, least, own, same))

-- a note is one of its poster's
pub contains_from : (xs : List Note) (k : ℕ) (d : Note) → k < length xs → Contains (from xs (slice_index_or xs k d).poster) (slice_index_or xs k d)
contains_from [] k d low = absurd (omega (arith, low))
contains_from (x ∷ xs) zero d low = subst (λ (l : List Note). Contains l x) (sym (from-own x xs x.poster refl)) (0, omega arith, refl)
contains_from (x ∷ xs) (suc k) d low =
    let y = slice_index_or xs k d in
    let c = contains_from xs k d (omega (arith, low)) in
    dite (ℕ_discrete x.poster y.poster)
    (λ e. subst (λ (l : List Note). Contains l y) (sym (from-own x xs y.poster e)) (suc c.0, omega (arith, c.1), c.2))
    (λ n. subst (λ (l : List Note). Contains l y) (sym (from-other x xs y.poster n)) c)
