-- How many lines a text has.
use Rattle.std.proofs.Common.{◌≡◌, ℕ, ◌+◌, ◌-◌, ◌<◌, ◌==◌, true, false, cond, List, [], ◌∷◌, ◌++◌, length, refl, ap, arith}
use Rattle.std.specs.Prelude.{count_by}
use Rattle.std.specs.List.{onto_first}
use Rattle.std.proofs.lemmas.List.{length-append}
use Rattle.std.proofs.lemmas.List.Recursion.{is_count_by}
use Rattle.sup_format.specs.Reading.Texts.{lines_of, IsFull}
use Rattle.sup_format.specs.LineLaws.{lines-append, some_lines_snoc}

length_onto : (b : ℕ) (lines : List (List ℕ)) → 0 < length lines → length (onto_first b lines) ≡ length lines
length_onto b [] some = absurd (omega arith)
length_onto b (line ∷ lines) some = refl

-- the lines of a text that a line feed follows, but one
abbrev lines_before : List ℕ → ℕ
lines_before xs = length (lines_of (xs ++ 10 ∷ [])) - 1

count_step : (x : ℕ) (xs : List ℕ) → lines_before (x ∷ xs) ≡ cond (x == 10) (1 + lines_before xs) (lines_before xs)
count_step x xs =
    let lines = lines_of (xs ++ 10 ∷ []) in
    let some : 0 < length lines = some_lines_snoc xs in
    let onto = length_onto x lines some in
    elim (x == 10) as (λ v. length (cond v ([] ∷ lines) (onto_first x lines)) - 1 ≡ cond v (1 + (length lines - 1)) (length lines - 1)) [ true ↦ omega arith | false ↦ omega (arith, onto) ]

-- a text that is empty or ends with a line feed has a line for each of its line feeds
pub count_full : (xs : List ℕ) → IsFull xs → length (lines_of xs) ≡ count_by (λ b. b == 10) xs
count_full xs full =
    let count : lines_before xs ≡ count_by (λ b. b == 10) xs = is_count_by lines_before (λ b. b == 10) refl count_step xs in
    let whole : length (lines_of (xs ++ 10 ∷ [])) ≡ length (lines_of xs ++ ([] ∷ [])) = ap length (lines-append xs (10 ∷ []) full) in
    omega (arith, count, whole, length-append (lines_of xs) ([] ∷ []))
