-- Which words spell which command.
use Rattle.std.proofs.Common.{◌≡◌, ℕ, ◌<◌, ◌^◌, ◌==◌, true, false, cond, nat_eq, List, [], ◌∷◌, ◌++◌, length, drop, codes, refl, sym, ap, ◌∙◌, arith, inl, inr, Option, None, Some, is_some}
use Rattle.std.specs.Fmt.{decimal}
use Rattle.std.specs.Str.{bytes_eq}
use Rattle.std.specs.List.{starts_with}
use Rattle.std.proofs.lemmas.Bool.{false≢true}
use Rattle.std.proofs.lemmas.Slice.Eq.{bytes_eq-Decides}
use Rattle.std.proofs.lemmas.List.Splits.{length-slice_split}
use denote.Ref.{Bor}
use Rattle.sup_types.specs.Text.{IsWord}
use Rattle.sup_types.specs.declared.history.Operation.{Operation}
use Rattle.sup_format.specs.declared.read.command.Command.TheVariants as command
use Rattle.sup_format.specs.declared.spelled.Verb.{Verb}
use Rattle.sup_format.specs.declared.spelled.Verb.TheVariants as verb
use Rattle.sup_format.specs.declared.spelled.Query.TheVariants as query
use Rattle.sup_format.specs.declared.read.header.Parts.{Parts}
use Rattle.sup_format.specs.Reading.Words.{words_of, words_left}
use Rattle.sup_format.specs.Reading.Tokens.{verb_word, operation_verb, argument_words, IsOperation, HasNoValue}
use Rattle.sup_format.specs.Reading.Lines.{IsIdentifierWord, query_word, MeansNothing}
use Rattle.sup_format.specs.Reading.Headers.{limit_words}

-- ---- texts

pub texts_differ : (a b : List ℕ) → bytes_eq a b ≡ false → a ≡ b → ⊥
texts_differ a b other e = false≢true (sym other ∙ (bytes_eq-Decides a b).1 e)

-- ---- words

pub first_same : (a b : List ℕ) (xs ys : List (List ℕ)) → a ∷ xs ≡ b ∷ ys → a ≡ b
first_same a b xs ys e = cc

pub rest_same : (a b : List ℕ) (xs ys : List (List ℕ)) → a ∷ xs ≡ b ∷ ys → xs ≡ ys
rest_same a b xs ys e = cc

pub tail_is : (a b : List ℕ) (xs ys ws : List (List ℕ)) → ws ≡ a ∷ xs → ws ≡ b ∷ ys → xs ≡ ys
tail_is a b xs ys ws p q = cc

pub words_of_some : (line : List ℕ) → words_of line ≡ [] → ⊥
words_of_some line e =
    let some = length-slice_split (λ b. b == 32) line in
    let none : length (words_of line) ≡ 0 = ap length e in
    absurd (omega arith)

-- words follow where bytes are left
pub more_than_none : (rest : Option (Bor (List ℕ))) → is_some rest ≡ true → words_left rest ≡ [] → ⊥
more_than_none None e none = false≢true e
more_than_none (Some rest) e none = words_of_some rest.now none

pub none_left : (rest : Option (Bor (List ℕ))) → is_some rest ≡ false → words_left rest ≡ []
none_left None e = refl
none_left (Some rest) e = absurd (false≢true (sym e))

-- ---- the first word of a command

-- the operation that a word names
abbrev verb_of : List ℕ → Option Verb
verb_of word =
    cond (bytes_eq word (codes "start")) (Some verb.Start)
    (cond (bytes_eq word (codes "exit")) (Some verb.Exit)
    (cond (bytes_eq word (codes "retry")) (Some verb.Retry) (cond (bytes_eq word (codes "terminate")) (Some verb.Terminate) (cond (bytes_eq word (codes "stop")) (Some verb.Stop) None))))

verb_is : (v : Verb) → verb_of (verb_word v) ≡ Some v
verb_is verb.Start = refl
verb_is verb.Exit = refl
verb_is verb.Retry = refl
verb_is verb.Terminate = refl
verb_is verb.Stop = refl

pub verb_same : (v w : Verb) → verb_word v ≡ verb_word w → v ≡ w
verb_same v w e = let same : Some v ≡ Some w = sym (verb_is v) ∙ ap verb_of e ∙ verb_is w in cc

-- a word that names no operation
pub no_verb : (v : Verb) (word : List ℕ) → verb_of word ≡ None → verb_word v ≡ word → ⊥
no_verb v word none e = let same : Some v ≡ None = sym (verb_is v) ∙ ap verb_of e ∙ none in cc

pub identifier_no_verb : (word : List ℕ) → IsIdentifierWord word → verb_of word ≡ None
identifier_no_verb word is =
    elim is [
      | inl a ↦ rw a refl
      | inr b ↦ elim b [ inl c ↦ rw c refl | inr d ↦ rw d refl ]
    ]

-- ---- words that spell no command

pub no_update : (v : Verb) (ws : List (List ℕ)) → ((m : ℕ) (o : Operation) → m < 2 ^ 64 → IsOperation o → operation_verb o ≡ v → ws ≡ decimal m ∷ argument_words o → ⊥) → MeansNothing (verb_word v ∷ ws)
no_update v ws none (command.Update m o) s =
    let e = s.spelled in
    none m o s.fits.0 s.fits.1 (verb_same _ _ (sym (first_same _ _ _ _ e))) (rest_same _ _ _ _ e)
no_update v ws none command.Which s = no_verb v (codes "which") refl (first_same _ _ _ _ s.spelled)
no_update v ws none command.Count s = no_verb v (codes "count") refl (first_same _ _ _ _ s.spelled)
no_update v ws none (command.ById text) s =
    let name = s.spelled.0 in
    no_verb v name (identifier_no_verb name s.spelled.1) (first_same _ _ _ _ s.spelled.2)

-- a first word that names no command
pub no_command : (ws : List (List ℕ)) → HasNoValue verb_word ws → HasNoValue query_word ws → MeansNothing ws
no_command ws verbs queries (command.Update m o) s = verbs (operation_verb o) _ s.spelled
no_command ws verbs queries command.Which s = queries query.Which [] s.spelled
no_command ws verbs queries command.Count s = queries query.Count [] s.spelled
no_command ws verbs queries (command.ById text) s =
    let e = s.spelled.2 in
    elim s.spelled.1 [
      | inl a ↦ queries query.TerminateId (text ∷ []) (rw a at e)
      | inr b ↦ elim b [ inl c ↦ queries query.DeleteChild (text ∷ []) (rw c at e) | inr d ↦ queries query.RestartChild (text ∷ []) (rw d at e) ]
    ]

-- ---- reasons

-- a text after `shutdown:` is a word of its own, and so is what it makes
pub term_is : (t u word : List ℕ) → word ≡ codes "shutdown:" ++ t → word ≡ codes "shutdown:" ++ u → t ≡ u
term_is t u word p q = ap (λ l. drop 9 l) (sym p ∙ q)

-- with `shutdown:` before it, it begins so
begins : (t : List ℕ) → starts_with nat_eq (codes "shutdown:" ++ t) (codes "shutdown:") ≡ true
begins t = refl

pub term_is_no_word : (t word : List ℕ) → word ≡ codes "shutdown:" ++ t → IsWord word → ⊥
term_is_no_word t word e w = false≢true (sym w.3 ∙ ap (λ l. starts_with nat_eq l (codes "shutdown:")) e ∙ begins t)

-- ---- first lines

-- the words after the five
pub past_limits : (parts p : Parts) (ws xs ys : List (List ℕ)) → ws ≡ limit_words parts ++ xs → ws ≡ limit_words p ++ ys → xs ≡ ys
past_limits parts p ws xs ys a b = ap (drop 5) (sym a ∙ b)
