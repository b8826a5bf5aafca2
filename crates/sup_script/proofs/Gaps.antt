-- Arguments that the start function fails for a while.
use Rattle.std.proofs.Common.{◌≡◌, ℕ, ◌+◌, ◌<◌, ◌≤◌, ◌^◌, ◌==◌, Bool, true, false, ◌&&◌, List, [], ◌∷◌, ◌++◌, length, get_or, take, drop, codes, nat_eq, refl, sym, ap, ◌∙◌, append_assoc, arith}
use Rattle.std.specs.Prelude.{nat_le, nat_lt}
use Rattle.std.specs.List.{starts_with, before_first, after_first, position_or_len}
use Rattle.std.specs.Str.Parse.{digits_value}
use Rattle.std.specs.Fmt.{decimal}
use Rattle.std.proofs.Math.ListN.{get_or-append}
use Rattle.std.proofs.Math.Seq.{get_or-append_seam, drop-append_seam, take-append_seam}
use Rattle.std.proofs.lemmas.Bool.{lt-ltb}
use Rattle.std.proofs.lemmas.Bool.Decides.{nat_tests}
use Rattle.std.proofs.lemmas.Fmt.{decimal_digit, decimal_is_IsNumeral}
use Rattle.std.proofs.lemmas.List.{length-append, length-drop, nil_from_length}
use Rattle.std.proofs.lemmas.List.Sums.{position_or_len_is}
use Rattle.std.proofs.lemmas.Slice.Eq.{bytes_eq-Decides}
use Rattle.sup_script.specs.Starter.{is_number, is_within, is_gap_at}
use Rattle.sup_format.specs.Reading.Words.{Lacks, IsSplit}

-- ---- numbers

value_is : (word : List ℕ) (n : ℕ) → n < 2 ^ 64 → word ≡ decimal n → digits_value 10 word ≡ n
value_is word n fits e = ap (digits_value 10) e ∙ (decimal_is_IsNumeral n fits).1

both_true : (a b : Bool) → a ≡ true → b ≡ true → a && b ≡ true
both_true a b p q = rw (p, q) refl

number_is : (word : List ℕ) (n : ℕ) → n < 2 ^ 64 → word ≡ decimal n → is_number word ≡ true
number_is word n fits e =
    let value = value_is word n fits e in
    both_true _ _ (lt-ltb _ _ (omega (arith, value, fits))) ((bytes_eq-Decides _ _).1 (e ∙ ap decimal (sym value)))

all_true : (p q r s : Bool) → p ≡ true → q ≡ true → r ≡ true → s ≡ (p && q && r && s)
all_true p q r s a b c = rw (a, b, c) refl

third_false : (p q r s : Bool) → r ≡ false → false ≡ (p && q && r && s)
third_false true true r s e = rw e refl
third_false true false r s e = refl
third_false false q r s e = refl

second_false : (p q r s : Bool) → q ≡ false → false ≡ (p && q && r && s)
second_false true q r s e = rw e refl
second_false false q r s e = refl

module _ (from to : List ℕ) (a b m : ℕ) (fa : a < 2 ^ 64) (fb : b < 2 ^ 64) (ea : from ≡ decimal a) (eb : to ≡ decimal b) where
  pub within_is : a ≤ m → nat_lt m b ≡ is_within from to m
  within_is below =
      let va = value_is from a fa ea in
      let vb = value_is to b fb eb in
      let low : nat_le (digits_value 10 from) m ≡ true = rw va (grind (arith, nat_tests)) in
      ap (nat_lt m) (sym vb) ∙ all_true (is_number from) (is_number to) (nat_le (digits_value 10 from) m) (nat_lt m (digits_value 10 to)) (number_is from a fa ea) (number_is to b fb eb) low

  pub within_not : m < a → nat_le a m ≡ is_within from to m
  within_not above =
      let va = value_is from a fa ea in
      let none : nat_le a m ≡ false = grind (arith, nat_tests) in
      let low : nat_le (digits_value 10 from) m ≡ false = rw va none in
      none ∙ third_false (is_number from) (is_number to) (nat_le (digits_value 10 from) m) (nat_lt m (digits_value 10 to)) low

-- ---- the two words of a gap

no_number : is_number [] ≡ false
no_number = rw (decimal_digit 0 (omega arith)) refl

module _ (numbers : List ℕ) where
  no_after : Lacks 58 numbers → after_first (λ b. b == 58) numbers ≡ []
  no_after lacks =
      let here : position_or_len (λ b. b == 58) numbers ≡ length numbers =
      position_or_len_is (λ b. b == 58) numbers (length numbers) 0 (omega arith) (λ k below. lacks k 0 below) (λ below. absurd (omega arith)) in
      ap (λ n. drop (n + 1) numbers) here ∙ nil_from_length (drop (length numbers + 1) numbers) (omega (arith, length-drop (length numbers + 1) numbers))

  module _ (from to : List ℕ) (split : IsSplit 58 numbers from to) where
    parts_at : position_or_len (λ b. b == 58) numbers ≡ length from
    parts_at =
        position_or_len_is (λ b. b == 58) numbers (length from) 0 (omega (arith, ap length split.parts, length-append from (58 ∷ to)))
        (λ k below. let same : get_or numbers k 0 ≡ get_or from k 0 = ap (λ (l : List ℕ). get_or l k 0) split.parts ∙ get_or-append from (58 ∷ to) 0 k below in rw same (split.first k 0 below))
        (λ _. let same : get_or numbers (length from) 0 ≡ 58 = ap (λ (l : List ℕ). get_or l (length from) 0) split.parts ∙ get_or-append_seam from 58 to 0 in rw same refl)

    before_is : before_first (λ b. b == 58) numbers ≡ from
    before_is = ap (λ n. take n numbers) parts_at ∙ ap (take (length from)) split.parts ∙ take-append_seam from (58 ∷ to)

    after_is : after_first (λ b. b == 58) numbers ≡ to
    after_is =
        let front = from ++ 58 ∷ [] in
        let whole : numbers ≡ front ++ to = split.parts ∙ sym (append_assoc from (58 ∷ []) to) in
        let len : length from + 1 ≡ length front = sym (length-append from (58 ∷ [])) in
        ap (λ n. drop (n + 1) numbers) parts_at ∙ ap (λ n. drop n numbers) len ∙ ap (drop (length front)) whole ∙ drop-append_seam front to

module _ (bytes numbers : List ℕ) (m : ℕ) (whole : bytes ≡ codes "gap:" ++ numbers) where
  left_is : drop 4 bytes ≡ numbers
  left_is = ap (drop 4) whole

  begins : starts_with nat_eq bytes (codes "gap:") ≡ true
  begins = rw whole refl

  pub no_gap : Lacks 58 numbers → false ≡ is_gap_at bytes m
  no_gap lacks =
      let no_to : is_number (after_first (λ b. b == 58) (drop 4 bytes)) ≡ false = rw (left_is, no_after numbers lacks) no_number in
      rw (begins, ← second_false (is_number (before_first (λ b. b == 58) (drop 4 bytes))) (is_number (after_first (λ b. b == 58) (drop 4 bytes))) _ _ no_to) refl

  pub gap_is : (from to : List ℕ) → IsSplit 58 numbers from to → is_within from to m ≡ is_gap_at bytes m
  gap_is from to split =
      let before : before_first (λ b. b == 58) (drop 4 bytes) ≡ from = rw left_is (before_is numbers from to split) in
      let after : after_first (λ b. b == 58) (drop 4 bytes) ≡ to = rw left_is (after_is numbers from to split) in
      let within : is_within (before_first (λ b. b == 58) (drop 4 bytes)) (after_first (λ b. b == 58) (drop 4 bytes)) m ≡ is_within from to m = rw (before, after) refl in
      sym within ∙ rw begins refl
