-- Which words spell which entry.
use Rattle.std.proofs.Common.{◌≡◌, ℕ, ◌<◌, ◌≤◌, ◌^◌, ◌==◌, false, List, [], ◌∷◌, length, get_or, refl, subst, sym, ap, ◌∙◌, arith, eq-eqb}
use Rattle.std.specs.Fmt.{decimal}
use Rattle.std.proofs.Math.Seq.{get_or-append_seam}
use Rattle.std.proofs.lemmas.Bool.{false≢true}
use Rattle.std.proofs.lemmas.Fmt.{decimal_injective}
use Rattle.std.proofs.lemmas.List.{length-append}
use Rattle.sup_types.specs.declared.history.Answer.{Answer}
use Rattle.sup_types.specs.declared.history.Answer.TheVariants as answer
use Rattle.sup_format.specs.declared.spelled.AnswerName.TheVariants as name
use Rattle.sup_format.specs.Reading.Words.{Lacks, IsSplit}
use Rattle.sup_format.specs.Reading.Tokens.{HasNoValue}
use Rattle.sup_format.specs.Reading.History.{answer_word, answer_words, MeansNoEntry}
use Rattle.sup_format.proofs.Reading.Commands.{first_same}
use Rattle.sup_format.specs.LineLaws.{lines-split}

-- ---- answers

pub too_large_a_code : (word : List ℕ) (n code : ℕ) → n < 2 ^ 64 → 2 ^ 32 ≤ n → code < 2 ^ 32 → word ≡ decimal n → word ≡ decimal code → ⊥
too_large_a_code word n code fits large small e f = let same : n ≡ code = decimal_injective n code fits (omega arith) (sym e ∙ f) in absurd (omega arith)

pub no_answer : (ws : List (List ℕ)) → HasNoValue answer_word ws → (a : Answer) → ws ≡ answer_words a → ⊥
no_answer ws none answer.Running e = none name.Running [] e
no_answer ws none answer.Ignore e = none name.Ignore [] e
no_answer ws none (answer.Failed code) e = none name.Failed (decimal code ∷ []) e

-- ---- lines

pub lacks_split : (byte : ℕ) (bytes line more : List ℕ) → Lacks byte bytes → IsSplit byte bytes line more → ⊥
lacks_split byte bytes line more lacks split =
    let inside : length line < length bytes = omega (arith, ap length split.parts, length-append line (byte ∷ more)) in
    let here : get_or bytes (length line) 0 ≡ byte = ap (λ (l : List ℕ). get_or l (length line) 0) split.parts ∙ get_or-append_seam line byte more 0 in
    let other : (get_or bytes (length line) 0 == byte) ≡ false = lacks (length line) 0 inside in
    false≢true (sym other ∙ ap (λ b. b == byte) here ∙ eq-eqb byte byte refl)

pub line_same : (bytes line more line' more' : List ℕ) → IsSplit 10 bytes line more → IsSplit 10 bytes line' more' → line ≡ line'
line_same bytes line more line' more' a b = first_same _ _ _ _ (sym (lines-split bytes line more a) ∙ lines-split bytes line' more' b)

pub no_entry_in : (bytes line more : List ℕ) → IsSplit 10 bytes line more → MeansNoEntry line → (line' more' : List ℕ) → IsSplit 10 bytes line' more' → MeansNoEntry line'
no_entry_in bytes line more split none line' more' other = subst MeansNoEntry (line_same bytes line more line' more' split other) none
