-- No line means two commands.
use Rattle.std.proofs.Common.{◌≡◌, ℕ, List, [], ◌∷◌, ◌++◌, take, drop, codes, refl, sym, ap, ◌∙◌}
use Rattle.std.proofs.lemmas.Fmt.{decimal_injective}
use Rattle.sup_types.specs.declared.reason.Reason.{Reason}
use Rattle.sup_types.specs.declared.reason.Reason.TheVariants as reason
use Rattle.sup_types.specs.declared.history.Operation.{Operation}
use Rattle.sup_types.specs.declared.history.Operation.TheVariants as operation
use Rattle.sup_format.specs.declared.read.command.Command.{Command}
use Rattle.sup_format.specs.declared.read.command.Command.TheVariants as command
use Rattle.sup_format.specs.Reading.Tokens.{IsReason, IsOperation, reason_word, operation_verb, argument_words}
use Rattle.sup_format.specs.Reading.Lines.{LineMeans, IsCommand, AreWordsOf}
use Rattle.sup_format.proofs.Reading.Commands.{texts_differ, first_same, rest_same, verb_same, no_verb, identifier_no_verb, term_is, term_is_no_word}

-- ---- reasons

-- a fixed text begins otherwise, or ends where the term begins
no_term : (t : List ℕ) → codes "shutdown" ≡ codes "shutdown:" ++ t → ⊥
no_term t e = let none : [] ≡ 58 ∷ t = ap (λ l. drop 8 l) e in absurd cc

normal_differs : (t : List ℕ) → codes "normal" ≡ codes "shutdown:" ++ t → ⊥
normal_differs t e = texts_differ (110 ∷ []) (115 ∷ []) refl (ap (λ (l : List ℕ). take 1 l) e)

pub same_reason : (r s : Reason) → IsReason r → IsReason s → reason_word r ≡ reason_word s → r ≡ s
same_reason reason.Normal reason.Normal f g e = refl
same_reason reason.Normal reason.Shutdown f g e = absurd (texts_differ (codes "normal") (codes "shutdown") refl e)
same_reason reason.Normal (reason.ShutdownWith t) f g e = absurd (normal_differs t e)
same_reason reason.Normal (reason.Other w) f g e = absurd (g.1 (sym e))
same_reason reason.Shutdown reason.Normal f g e = absurd (texts_differ (codes "shutdown") (codes "normal") refl e)
same_reason reason.Shutdown reason.Shutdown f g e = refl
same_reason reason.Shutdown (reason.ShutdownWith t) f g e = absurd (no_term t e)
same_reason reason.Shutdown (reason.Other w) f g e = absurd (g.2 (sym e))
same_reason (reason.ShutdownWith t) reason.Normal f g e = absurd (normal_differs t (sym e))
same_reason (reason.ShutdownWith t) reason.Shutdown f g e = absurd (no_term t (sym e))
same_reason (reason.ShutdownWith t) (reason.ShutdownWith u) f g e = ap reason.ShutdownWith (term_is t u _ refl e)
same_reason (reason.ShutdownWith t) (reason.Other w) f g e = absurd (term_is_no_word t w (sym e) g)
same_reason (reason.Other w) reason.Normal f g e = absurd (f.1 e)
same_reason (reason.Other w) reason.Shutdown f g e = absurd (f.2 e)
same_reason (reason.Other w) (reason.ShutdownWith t) f g e = absurd (term_is_no_word t w e f)
same_reason (reason.Other w) (reason.Other v) f g e = ap reason.Other e

-- ---- operations of one name

pub same_operation : (o p : Operation) → operation_verb o ≡ operation_verb p → IsOperation o → IsOperation p → (xs ys : List (List ℕ)) → argument_words o ++ xs ≡ argument_words p ++ ys → o ≡ p
same_operation (operation.Start a) (operation.Start b) v f g xs ys e = ap operation.Start (first_same a b xs ys e)
same_operation (operation.Exit j r) (operation.Exit k s) v f g xs ys e =
    let number : j ≡ k = decimal_injective j k f.0 g.0 (first_same _ _ _ _ e) in
    let why : r ≡ s = same_reason r s f.1 g.1 (first_same _ _ _ _ (rest_same _ _ _ _ e)) in
    cc
same_operation (operation.Retry j) (operation.Retry k) v f g xs ys e = ap operation.Retry (decimal_injective j k f g (first_same _ _ _ _ e))
same_operation (operation.Terminate j) (operation.Terminate k) v f g xs ys e = ap operation.Terminate (decimal_injective j k f g (first_same _ _ _ _ e))
same_operation operation.Stop operation.Stop v f g xs ys e = refl
same_operation o p v f g xs ys e = absurd cc

-- ---- commands

same_command : (words : List (List ℕ)) (c d : Command) → IsCommand c → IsCommand d → AreWordsOf words c → AreWordsOf words d → c ≡ d
same_command words (command.Update m o) (command.Update n p) f g c d =
    let e = sym c ∙ d in
    let moment : m ≡ n = decimal_injective m n f.0 g.0 (first_same _ _ _ _ (rest_same _ _ _ _ e)) in
    let verb = verb_same _ _ (first_same _ _ _ _ e) in
    let same : o ≡ p = same_operation o p verb f.1 g.1 [] [] (ap (λ (l : List (List ℕ)). drop 2 l ++ []) e) in
    cc
same_command words (command.Update m o) command.Which f g c d = absurd (no_verb (operation_verb o) (codes "which") refl (first_same _ _ _ _ (sym c ∙ d)))
same_command words (command.Update m o) command.Count f g c d = absurd (no_verb (operation_verb o) (codes "count") refl (first_same _ _ _ _ (sym c ∙ d)))
same_command words (command.Update m o) (command.ById t) f g c d = absurd (no_verb (operation_verb o) d.0 (identifier_no_verb d.0 d.1) (first_same _ _ _ _ (sym c ∙ d.2)))
same_command words command.Which (command.Update n p) f g c d = absurd (no_verb (operation_verb p) (codes "which") refl (first_same _ _ _ _ (sym d ∙ c)))
same_command words command.Which command.Which f g c d = refl
same_command words command.Which command.Count f g c d = absurd (texts_differ (codes "which") (codes "count") refl (first_same _ _ _ _ (sym c ∙ d)))
same_command words command.Which (command.ById t) f g c d = let e = rest_same _ _ _ _ (sym c ∙ d.2) in absurd cc
same_command words command.Count (command.Update n p) f g c d = absurd (no_verb (operation_verb p) (codes "count") refl (first_same _ _ _ _ (sym d ∙ c)))
same_command words command.Count command.Which f g c d = absurd (texts_differ (codes "count") (codes "which") refl (first_same _ _ _ _ (sym c ∙ d)))
same_command words command.Count command.Count f g c d = refl
same_command words command.Count (command.ById t) f g c d = let e = rest_same _ _ _ _ (sym c ∙ d.2) in absurd cc
same_command words (command.ById t) (command.Update n p) f g c d = absurd (no_verb (operation_verb p) c.0 (identifier_no_verb c.0 c.1) (first_same _ _ _ _ (sym d ∙ c.2)))
same_command words (command.ById t) command.Which f g c d = let e = rest_same _ _ _ _ (sym d ∙ c.2) in absurd cc
same_command words (command.ById t) command.Count f g c d = let e = rest_same _ _ _ _ (sym d ∙ c.2) in absurd cc
same_command words (command.ById t) (command.ById u) f g c d = ap command.ById (first_same _ _ _ _ (rest_same _ _ _ _ (sym c.2 ∙ d.2)))

pub one_meaning : (line : List ℕ) (c d : Command) → LineMeans line c → LineMeans line d → c ≡ d
one_meaning line c d p q = same_command _ c d p.fits q.fits p.spelled q.spelled
