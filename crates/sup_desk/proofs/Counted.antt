-- The counts of the handles' entries.
use Rattle.std.proofs.Common.{◌≡◌, ℕ, zero, suc, Bool, true, false, cond, ◌==◌, ◌<◌, List, [], ◌∷◌, length, get_or, refl, ap, sym, ◌∙◌, arith}
use Rattle.std.proofs.lemmas.Bool.Decides.{nat_tests}
use Rattle.std.specs.List.{All}
use Rattle.sup_types.specs.declared.history.Entry.{Entry}
use Rattle.sup_desk.specs.Knowledge.{entries_of}
use Rattle.sup_desk.specs.Books.{IsMade}
use Rattle.sup_desk.specs.EntryLaws.{entries_le}

-- the entries are of handles that were made
abbrev pub AreMade : ℕ → List Entry → Type 0
AreMade made history = All (λ entry. IsMade made entry.handle) history

first_made : (made : ℕ) (x : Entry) (xs : List Entry) → AreMade made (x ∷ xs) → IsMade made x.handle
first_made made x xs all = all 0 x (omega arith)

rest_made : (made : ℕ) (x : Entry) (xs : List Entry) → AreMade made (x ∷ xs) → AreMade made xs
rest_made made x xs all = λ k d within. all (suc k) d (omega arith)

skipped : (b : Bool) (x : Entry) (ys : List Entry) → b ≡ false → ys ≡ [] → cond b (x ∷ ys) ys ≡ []
skipped true x ys is none = absurd (cc is)
skipped false x ys is none = none

apart : (m n : ℕ) → ¬ (m ≡ n) → (m == n) ≡ false
apart m n differ = by_test (m == n) refl
  where
    by_test : (b : Bool) → (m == n) ≡ b → (m == n) ≡ false
    by_test true is = absurd (differ (grind (arith, nat_tests)))
    by_test false is = is

-- a number that no handle has yet has no entries
pub entries-none : (made : ℕ) (history : List Entry) (number : ℕ) → AreMade made history → made < number → entries_of history number ≡ []
entries-none made [] number all past = refl
entries-none made (x ∷ xs) number all past =
    let mine = first_made made x xs all in
    let differ : ¬ (x.handle ≡ number) = λ same. omega (arith, mine.1) in
    skipped (x.handle == number) x (entries_of xs number) (apart x.handle number differ) (entries-none made xs number (rest_made made x xs all) past)

-- entries that are all of one handle: each of them is, and no other handle has any
rest_own : (x : Entry) (xs : List Entry) (number : ℕ) (b : Bool) → b ≡ true → cond b (x ∷ entries_of xs number) (entries_of xs number) ≡ x ∷ xs → entries_of xs number ≡ xs
rest_own x xs number true is all = cc all
rest_own x xs number false is all = absurd (cc is)

not_own : (x : Entry) (xs : List Entry) (number : ℕ) (b : Bool) → b ≡ false → cond b (x ∷ entries_of xs number) (entries_of xs number) ≡ x ∷ xs → ⊥
not_own x xs number true is all = absurd (cc is)
not_own x xs number false is all = omega (arith, ap length all, entries_le number xs)

pub own_all : (number : ℕ) (es : List Entry) → entries_of es number ≡ es → (k : ℕ) (d : Entry) → k < length es → (get_or es k d).handle ≡ number
own_all number [] own k d within = absurd (omega (arith, within))
own_all number (x ∷ xs) own k d within =
    by_test (λ is j low. own_all number xs (rest_own x xs number (x.handle == number) is own) j d low) (x.handle == number) refl
  where
    at : ((x.handle == number) ≡ true → (j : ℕ) → j < length xs → (get_or xs j d).handle ≡ number) → (k : ℕ) → k < length (x ∷ xs) → (x.handle == number) ≡ true
        → (get_or (x ∷ xs) k d).handle ≡ number
    at more zero low is = grind (arith, nat_tests)
    at more (suc k) low is = more is k (omega (arith, low))

    by_test : ((x.handle == number) ≡ true → (j : ℕ) → j < length xs → (get_or xs j d).handle ≡ number) → (b : Bool) → (x.handle == number) ≡ b
        → (get_or (x ∷ xs) k d).handle ≡ number
    by_test more true is = at more k within is
    by_test more false is = absurd (not_own x xs number (x.handle == number) is own)

pub others_none : (number other : ℕ) (es : List Entry) → ((k : ℕ) (d : Entry) → k < length es → (get_or es k d).handle ≡ number) → ¬ (other ≡ number)
    → entries_of es other ≡ []
others_none number other [] own differ = refl
others_none number other (x ∷ xs) own differ =
    skipped (x.handle == other) x (entries_of xs other) (apart x.handle other (λ same. differ (sym same ∙ own 0 x (omega arith))))
    (others_none number other xs (λ k d within. own (suc k) d (omega (arith, within))) differ)
