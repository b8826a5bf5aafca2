-- Which numbers the texts of a load's options write.
use Rattle.std.proofs.Common.{◌≡◌, ◌∙◌, ℕ, List, Option, Some, None, Result, refl, sym, ap, subst}
use Rattle.std.specs.Prelude.{MatchOption}
use Rattle.std.specs.Str.Parse.{ParsesUnsigned, ExplainsUnsignedError, HasUnsignedDigitsIfOk, digits_value, without_leading_plus}
use Rattle.std.specs.declared.num.ParseIntError.{ParseIntError}
use Rattle.clap.specs.Matches.{ReadsOne, one_text}
use Rattle.clap.specs.Walk.{Row, Text, rows_of}
use Rattle.clap.specs.declared.parser.matches.Found.{Found}
use Rattle.clap.proofs.WalkLemmas.{one_text-rows}
use Rattle.sup_words.specs.Ranges.{IsWithin}
use Rattle.sup_words.specs.Orders.{AreNumbers, HasNumber}
use Rattle.sup_words.specs.declared.load.Load.{Load}

-- what `parse` gives at a number of 64 bits
abbrev Gives : List ℕ → Result ℕ ParseIntError → Type 0
Gives bs r = ParsesUnsigned 64 10 bs r × ExplainsUnsignedError 10 bs r × HasUnsignedDigitsIfOk bs r

none≢some : {n : ℕ} → None ≡ Some n → ⊥
none≢some e = cc

same_text : {a b : Text} → Some a ≡ Some b → a ≡ b
same_text e = cc

module _ (f : Found) (name : Text) (r : Option ℕ)
    (none : one_text f name ≡ None → r ≡ None) (value : (t : List ℕ) → one_text f name ≡ Some t → ReadsOne Gives t r) where
  -- a number that was read is the option's
  pub is_number : (n : ℕ) → r ≡ Some n → HasNumber (rows_of f) name n
  is_number n is = go (one_text f name) refl
    where
      go : (o : Option Text) → one_text f name ≡ o → HasNumber (rows_of f) name n
      go None e = absurd (none≢some (sym (none e) ∙ is))
      go (Some t) e =
          let read = subst (ReadsOne Gives t) is (value t e) in
          record { text = t; found = sym (one_text-rows f name) ∙ e; numeral = read.0.0.0; fits = read.0.0.1; value = read.0.1 }

  -- where none was read the option has none
  pub no_number : r ≡ None → (n : ℕ) → HasNumber (rows_of f) name n → ⊥
  no_number is n h =
      let read = subst (ReadsOne Gives h.text) is (value h.text (one_text-rows f name ∙ h.found)) in
      read.1.0 (h.numeral, h.fits)

-- an option has one number
pub same_number : {rows : List Row} {name : Text} {m n : ℕ} → HasNumber rows name m → HasNumber rows name n → m ≡ n
same_number a b =
    a.value ∙ (ap (λ t. digits_value 10 (without_leading_plus t)) (same_text (sym a.found ∙ b.found)) ∙ sym b.value)

-- numbers out of their ranges are those of no load
pub not_within : (rows : List Row) (a b c d : ℕ) → AreNumbers rows a b c d → (IsWithin a b c d → ⊥)
    → (w n r t : ℕ) → AreNumbers rows w n r t → IsWithin w n r t → ⊥
not_within rows a b c d are outside w n r t others within = outside
    (rw (same_number are.workers others.workers, same_number are.children others.children, same_number are.readers others.readers, same_number are.turns others.turns) within)

-- no load was read, and no numbers are one's
pub no_load : (rows : List Row) (result : Option Load) → result ≡ None → ((w n r t : ℕ) → AreNumbers rows w n r t → IsWithin w n r t → ⊥)
    → MatchOption result ((w n r t : ℕ) → AreNumbers rows w n r t → IsWithin w n r t → ⊥)
    (λ load. AreNumbers rows load.workers load.children load.readers load.turns)
no_load rows result is outside = rw is outside

-- a load is read where its numbers are within their ranges
pub load_read : (rows : List Row) (a b c d : ℕ) (result : Option Load) → AreNumbers rows a b c d
    → MatchOption result (IsWithin a b c d → ⊥) (λ load. (load.workers ≡ a) × (load.children ≡ b) × (load.readers ≡ c) × (load.turns ≡ d))
    → MatchOption result ((w n r t : ℕ) → AreNumbers rows w n r t → IsWithin w n r t → ⊥)
    (λ load. AreNumbers rows load.workers load.children load.readers load.turns)
load_read rows a b c d None are outside = not_within rows a b c d are outside
load_read rows a b c d (Some load) are same = rw (same.0, same.1, same.2, same.3) are
