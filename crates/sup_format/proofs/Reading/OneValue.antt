-- No text spells two values, and no header gives two templates.
use Rattle.std.proofs.Common.{◌≡◌, ℕ, Bool, true, false, cond, List, [], ◌∷◌, ◌++◌, drop, codes, refl, sym, ap, subst, ◌∙◌, inl, inr, arith, Option, None, Some}
use Rattle.std.specs.Str.{bytes_eq}
use Rattle.std.proofs.lemmas.Fmt.{decimal_injective}
use Rattle.std.proofs.lemmas.List.{append_cancel_left}
use Rattle.sup_types.specs.declared.template.Template.{Template}
use Rattle.sup_types.specs.declared.template.Restart.{Restart}
use Rattle.sup_types.specs.declared.template.Restart.TheVariants as restart
use Rattle.sup_types.specs.declared.template.Kind.{Kind}
use Rattle.sup_types.specs.declared.template.Kind.TheVariants as kind
use Rattle.sup_types.specs.declared.template.AutoShutdown.{AutoShutdown}
use Rattle.sup_types.specs.declared.template.AutoShutdown.TheVariants as auto
use Rattle.sup_types.specs.declared.history.Answer.{Answer}
use Rattle.sup_types.specs.declared.history.Answer.TheVariants as answer
use Rattle.sup_types.specs.declared.history.Operation.{Operation}
use Rattle.sup_types.specs.declared.history.Entry.{Entry}
use Rattle.sup_format.specs.declared.read.header.Parts.{Parts}
use Rattle.sup_format.specs.Reading.Tokens.{restart_word, kind_word, mark_word, auto_word, argument_words}
use Rattle.sup_format.specs.Reading.Headers.{AreHeaderWords, limit_words, shutdown_words, FitsParts, HasShape, IsFirst, IsTemplateOf}
use Rattle.sup_format.specs.Reading.History.{AreFirstWords, answer_words, IsAnswer, EntryMeans, AreEntries, Spells, IsSameTemplate}
use Rattle.sup_format.proofs.Reading.Commands.{texts_differ, first_same, rest_same, verb_same}
use Rattle.sup_format.proofs.Reading.OneCommand.{same_operation}

-- ---- words

abbrev restart_of : List ℕ → Option Restart
restart_of word =
    cond (bytes_eq word (codes "permanent")) (Some restart.Permanent) (cond (bytes_eq word (codes "transient")) (Some restart.Transient) (cond (bytes_eq word (codes "temporary")) (Some restart.Temporary) None))

restart_is : (r : Restart) → restart_of (restart_word r) ≡ Some r
restart_is restart.Permanent = refl
restart_is restart.Transient = refl
restart_is restart.Temporary = refl

restart_same : (r s : Restart) → restart_word r ≡ restart_word s → r ≡ s
restart_same r s e = let same : Some r ≡ Some s = sym (restart_is r) ∙ ap restart_of e ∙ restart_is s in cc

abbrev kind_of : List ℕ → Option Kind
kind_of word = cond (bytes_eq word (codes "worker")) (Some kind.Worker) (cond (bytes_eq word (codes "supervisor")) (Some kind.Supervisor) None)

kind_is : (k : Kind) → kind_of (kind_word k) ≡ Some k
kind_is kind.Worker = refl
kind_is kind.Supervisor = refl

kind_same : (k l : Kind) → kind_word k ≡ kind_word l → k ≡ l
kind_same k l e = let same : Some k ≡ Some l = sym (kind_is k) ∙ ap kind_of e ∙ kind_is l in cc

abbrev mark_of : List ℕ → Option Bool
mark_of word = cond (bytes_eq word (codes "significant")) (Some true) (cond (bytes_eq word (codes "plain")) (Some false) None)

mark_is : (b : Bool) → mark_of (mark_word b) ≡ Some b
mark_is true = refl
mark_is false = refl

mark_same : (a b : Bool) → mark_word a ≡ mark_word b → a ≡ b
mark_same a b e = let same : Some a ≡ Some b = sym (mark_is a) ∙ ap mark_of e ∙ mark_is b in cc

abbrev auto_of : List ℕ → Option AutoShutdown
auto_of word = cond (bytes_eq word (codes "never")) (Some auto.Never) (cond (bytes_eq word (codes "any")) (Some auto.Any) (cond (bytes_eq word (codes "all")) (Some auto.All) None))

auto_is : (a : AutoShutdown) → auto_of (auto_word a) ≡ Some a
auto_is auto.Never = refl
auto_is auto.Any = refl
auto_is auto.All = refl

auto_same : (a b : AutoShutdown) → auto_word a ≡ auto_word b → a ≡ b
auto_same a b e = let same : Some a ≡ Some b = sym (auto_is a) ∙ ap auto_of e ∙ auto_is b in cc

-- ---- first lines

-- the parts that the five words are
pub record AreSameLimits (p q : Parts) : Type 0 where
  pub restart : p.restart ≡ q.restart
  pub kind : p.kind ≡ q.kind
  pub intensity : p.intensity ≡ q.intensity
  pub period : p.period ≡ q.period
  pub max : p.max ≡ q.max

limits_same : (p q : Parts) (xs ys : List (List ℕ)) → FitsParts p → FitsParts q → limit_words p ++ xs ≡ limit_words q ++ ys → AreSameLimits p q
limits_same p q xs ys f g e =
    let e1 = rest_same _ _ _ _ e in
    let e2 = rest_same _ _ _ _ e1 in
    let e3 = rest_same _ _ _ _ e2 in
    let e4 = rest_same _ _ _ _ e3 in
    record {
      restart = restart_same p.restart q.restart (first_same _ _ _ _ e);
      kind = kind_same p.kind q.kind (first_same _ _ _ _ e1);
      intensity = decimal_injective p.intensity q.intensity f.0 g.0 (first_same _ _ _ _ e2);
      period = decimal_injective p.period q.period f.1 g.1 (first_same _ _ _ _ e3);
      max = decimal_injective p.max q.max f.2 g.2 (first_same _ _ _ _ e4);
    }

pub record AreSameParts (p q : Parts) : Type 0 where
  pub limits : AreSameLimits p q
  pub significant : p.significant ≡ q.significant
  pub auto_shutdown : p.auto_shutdown ≡ q.auto_shutdown

other_version : (xs ys ws : List (List ℕ)) → ws ≡ codes "history" ∷ codes "1" ∷ xs → ws ≡ codes "history" ∷ codes "2" ∷ ys → ⊥
other_version xs ys ws a b = texts_differ (codes "1") (codes "2") refl (first_same _ _ _ _ (rest_same _ _ _ _ (sym a ∙ b)))

same_rest : (v : List ℕ) (xs ys ws : List (List ℕ)) → ws ≡ codes "history" ∷ v ∷ xs → ws ≡ codes "history" ∷ v ∷ ys → xs ≡ ys
same_rest v xs ys ws a b = rest_same _ _ _ _ (rest_same _ _ _ _ (sym a ∙ b))

pub parts_same : (line : List ℕ) (p q : Parts) → HasShape AreFirstWords line p → HasShape AreFirstWords line q → AreSameParts p q
parts_same line p q h k =
    elim h.words [
      | inl a ↦ elim k.words [
        | inl b ↦ record { limits = limits_same p q [] [] h.fits k.fits (same_rest _ _ _ _ a.1 b.1); significant = a.0.0 ∙ sym b.0.0; auto_shutdown = a.0.1 ∙ sym b.0.1 }
        | inr b ↦ absurd (other_version _ _ _ a.1 b)
      ]
      | inr a ↦ elim k.words [
        | inl b ↦ absurd (other_version _ _ _ b.1 a)
        | inr b ↦
            let e = same_rest _ _ _ _ a b in
            let last : shutdown_words p ≡ shutdown_words q = ap (drop 5) e in
            record { limits = limits_same p q (shutdown_words p) (shutdown_words q) h.fits k.fits e; significant = mark_same _ _ (first_same _ _ _ _ last); auto_shutdown = auto_same _ _ (first_same _ _ _ _ (rest_same _ _ _ _ last)) }
      ]
    ]

same_templates : (t u : Template) (p q : Parts) → AreSameParts p q → IsTemplateOf t p → IsTemplateOf u q → IsSameTemplate t u
same_templates t u p q same a b = record {
  restart = a.restart ∙ same.limits.restart ∙ sym b.restart;
  kind = a.kind ∙ same.limits.kind ∙ sym b.kind;
  intensity = a.intensity ∙ same.limits.intensity ∙ sym b.intensity;
  period = a.period ∙ same.limits.period ∙ sym b.period;
  max = a.max ∙ same.limits.max ∙ sym b.max;
  entries = a.entries ∙ sym b.entries;
  significant = a.significant ∙ same.significant ∙ sym b.significant;
  auto_shutdown = a.auto_shutdown ∙ same.auto_shutdown ∙ sym b.auto_shutdown;
}

first_is_one : (line : List ℕ) (t u : Template) → IsFirst AreFirstWords line t → IsFirst AreFirstWords line u → IsSameTemplate t u
first_is_one line t u f g = same_templates t u f.parts g.parts (parts_same line f.parts g.parts f.shape g.shape) f.template_is g.template_is

-- ---- headers of scripts

-- five words are not seven
other_length : (p q : Parts) (ws : List (List ℕ)) → ws ≡ codes "sup" ∷ limit_words p → ws ≡ codes "sup" ∷ (limit_words q ++ shutdown_words q) → ⊥
other_length p q ws a b = let none : [] ≡ shutdown_words q = ap (drop 6) (sym a ∙ b) in absurd cc

header_parts_same : (line : List ℕ) (p q : Parts) → HasShape AreHeaderWords line p → HasShape AreHeaderWords line q → AreSameParts p q
header_parts_same line p q h k =
    elim h.words [
      | inl a ↦ elim k.words [
        | inl b ↦ record { limits = limits_same p q [] [] h.fits k.fits (rest_same _ _ _ _ (sym a.1 ∙ b.1)); significant = a.0.0 ∙ sym b.0.0; auto_shutdown = a.0.1 ∙ sym b.0.1 }
        | inr b ↦ absurd (other_length p q _ a.1 b)
      ]
      | inr a ↦ elim k.words [
        | inl b ↦ absurd (other_length q p _ b.1 a)
        | inr b ↦
            let e = rest_same _ _ _ _ (sym a ∙ b) in
            let last : shutdown_words p ≡ shutdown_words q = ap (drop 5) e in
            record { limits = limits_same p q (shutdown_words p) (shutdown_words q) h.fits k.fits e; significant = mark_same _ _ (first_same _ _ _ _ last); auto_shutdown = auto_same _ _ (first_same _ _ _ _ (rest_same _ _ _ _ last)) }
      ]
    ]

pub header_is_one : (line : List ℕ) (t u : Template) → IsFirst AreHeaderWords line t → IsFirst AreHeaderWords line u → IsSameTemplate t u
header_is_one line t u f g = same_templates t u f.parts g.parts (header_parts_same line f.parts g.parts f.shape g.shape) f.template_is g.template_is

-- ---- entries

same_answer : (a b : Answer) → IsAnswer a → IsAnswer b → answer_words a ≡ answer_words b → a ≡ b
same_answer answer.Running answer.Running f g e = refl
same_answer answer.Running answer.Ignore f g e = absurd (texts_differ (codes "running") (codes "ignore") refl (first_same _ _ _ _ e))
same_answer answer.Running (answer.Failed d) f g e = absurd (texts_differ (codes "running") (codes "failed") refl (first_same _ _ _ _ e))
same_answer answer.Ignore answer.Running f g e = absurd (texts_differ (codes "ignore") (codes "running") refl (first_same _ _ _ _ e))
same_answer answer.Ignore answer.Ignore f g e = refl
same_answer answer.Ignore (answer.Failed d) f g e = absurd (texts_differ (codes "ignore") (codes "failed") refl (first_same _ _ _ _ e))
same_answer (answer.Failed c) answer.Running f g e = absurd (texts_differ (codes "failed") (codes "running") refl (first_same _ _ _ _ e))
same_answer (answer.Failed c) answer.Ignore f g e = absurd (texts_differ (codes "failed") (codes "ignore") refl (first_same _ _ _ _ e))
same_answer (answer.Failed c) (answer.Failed d) f g e = ap answer.Failed (decimal_injective c d (omega (arith, f)) (omega (arith, g)) (first_same _ _ _ _ (rest_same _ _ _ _ e)))

abbrev made_entry : ℕ → ℕ → ℕ → Operation → Answer → Entry
made_entry handle serial moment operation a = record { handle = handle; serial = serial; moment = moment; operation = operation; answer = a }

same_made : (make : ℕ → ℕ → ℕ → Operation → Answer → Entry) (h s m h' s' m' : ℕ) (o o' : Operation) (a a' : Answer) → h ≡ h' → s ≡ s' → m ≡ m' → o ≡ o' → a ≡ a' → make h s m o a ≡ make h' s' m' o' a'
same_made make h s m h' s' m' o o' a a' p q r t u = cc

entry_is_one : (line : List ℕ) (e f : Entry) → EntryMeans line e → EntryMeans line f → e ≡ f
entry_is_one line e f a b =
    let w = sym a.words ∙ b.words in
    let w1 = rest_same _ _ _ _ w in
    let w2 = rest_same _ _ _ _ w1 in
    let w3 = rest_same _ _ _ _ w2 in
    let w4 = rest_same _ _ _ _ w3 in
    let verb = verb_same _ _ (first_same _ _ _ _ w3) in
    let operation : e.operation ≡ f.operation = same_operation e.operation f.operation verb a.fits.operation b.fits.operation (answer_words e.answer) (answer_words f.answer) w4 in
    let last : answer_words e.answer ≡ answer_words f.answer = append_cancel_left (argument_words e.operation) _ _ (w4 ∙ ap (λ o. argument_words o ++ answer_words f.answer) (sym operation)) in
    same_made made_entry e.handle e.serial e.moment f.handle f.serial f.moment e.operation f.operation e.answer f.answer
    (decimal_injective e.handle f.handle a.fits.handle b.fits.handle (first_same _ _ _ _ w)) (decimal_injective e.serial f.serial a.fits.serial b.fits.serial (first_same _ _ _ _ w1)) (decimal_injective e.moment f.moment a.fits.moment b.fits.moment (first_same _ _ _ _ w2))
    operation (same_answer e.answer f.answer a.fits.answer b.fits.answer last)

entries_are_one : (lines : List (List ℕ)) (es fs : List Entry) → AreEntries lines es → AreEntries lines fs → es ≡ fs
entries_are_one [] [] [] a b = refl
entries_are_one [] [] (f ∷ fs) a b = absurd b
entries_are_one [] (e ∷ es) fs a b = absurd a
entries_are_one (l ∷ ls) [] fs a b = absurd a
entries_are_one (l ∷ ls) (e ∷ es) [] a b = absurd b
entries_are_one (l ∷ ls) (e ∷ es) (f ∷ fs) a b =
    let head : e ≡ f = entry_is_one l e f a.0 b.0 in
    let tail : es ≡ fs = entries_are_one ls es fs a.1 b.1 in
    cc

-- ---- texts

pub value_is_one : (bytes : List ℕ) (t u : Template) (es fs : List Entry) → Spells bytes t es → Spells bytes u fs → IsSameTemplate t u × (es ≡ fs)
value_is_one bytes t u es fs a b =
    let lines = sym a.lines ∙ b.lines in
    let first : a.first ≡ b.first = first_same _ _ _ _ lines in
    let body : a.body ≡ b.body = rest_same _ _ _ _ lines in
    (first_is_one b.first t u (subst (λ l. IsFirst AreFirstWords l t) first a.first_is) b.first_is, entries_are_one b.body es fs (subst (λ l. AreEntries l es) body a.entries_are) b.entries_are)
