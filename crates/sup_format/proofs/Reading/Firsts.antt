-- First lines: the template that their parts give, and the parts that their words name.
use Rattle.std.specs.Prelude.{ℕ, List, Option, None, Some, Result, Ok, Err, MatchOption}
use Rattle.std.proofs.Common.{◌≡◌, ◌∷◌, ◌++◌, ◌∙◌, subst, sym, ap, codes, inl, inr}
use Rattle.sup_types.specs.declared.template.Template.{Template}
use Rattle.sup_format.specs.declared.fault.Fault.{Fault}
use Rattle.sup_format.specs.declared.read.header.Parts.{Parts}
use Rattle.sup_format.specs.Reading.Words.{words_of}
use Rattle.sup_format.specs.Reading.Headers.{AreHeaderWords, FitsParts, GivesTemplate, HasFirst, HasNoShutdown, HasParts, limit_words, shutdown_words}
use Rattle.sup_format.proofs.Reading.Commands.{past_limits, tail_is}

pub first_of : (Shape : List (List ℕ) → Parts → Type 0) (line : List ℕ) (parts : Option Parts) (result : Result Template Fault)
    → HasParts Shape (words_of line) parts → GivesTemplate parts result → HasFirst Shape line result
first_of Shape line None result found given = subst (HasFirst Shape line) (sym given) (λ parts h. found parts h.fits h.words)
first_of Shape line (Some parts) (Ok template) found given =
    record { parts = parts; shape = record { fits = found.0; words = found.1 }; template_is = given }
first_of Shape line (Some parts) (Err f) found given =
    let P : Fault → Type 0 = λ f. HasFirst Shape line (Err f) in
    subst P (sym given.0) (record { parts = parts; shape = record { fits = found.0; words = found.1 }; unfit = given.1 })

-- ---- the words of parts

-- all seven
abbrev pub AreMarked : List (List ℕ) → Parts → Type 0
AreMarked words parts = words ≡ limit_words parts ++ shutdown_words parts

pub marked_of : (parts : Parts) (ws xs : List (List ℕ)) (found : Option Parts) → FitsParts parts → ws ≡ limit_words parts ++ xs
    → MatchOption found (HasNoShutdown xs) (λ whole. (whole ≡ record parts { significant = whole.significant; auto_shutdown = whole.auto_shutdown }) × (xs ≡ shutdown_words whole))
    → HasParts AreMarked ws found
marked_of parts ws xs None fits limits none = λ p fit e. none p.significant p.auto_shutdown (past_limits parts p ws xs (shutdown_words p) limits e)
marked_of parts ws xs (Some whole) fits limits found =
    (subst FitsParts (sym found.0) fits, limits ∙ ap (λ ys. limit_words parts ++ ys) found.1 ∙ ap (λ p. limit_words p ++ shutdown_words whole) (sym found.0))

pub header_of : (ws xs : List (List ℕ)) (found : Option Parts) → ws ≡ codes "sup" ∷ xs → HasParts AreMarked xs found
    → ((p : Parts) → ws ≡ codes "sup" ∷ limit_words p → ⊥) → HasParts AreHeaderWords ws found
header_of ws xs None is none plain = λ p fits shape. elim shape [ inl e ↦ plain p e.1 | inr e ↦ none p fits (tail_is _ _ _ _ _ is e) ]
header_of ws xs (Some p) is found plain = (found.0, inr (is ∙ ap (λ ys. codes "sup" ∷ ys) found.1))
