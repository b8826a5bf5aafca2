-- What a queue that was entered says of the handle that asked for it.
use Rattle.std.proofs.Common.{◌≡◌, ℕ, List, [], ◌++◌, length, refl, ap, sym, ◌∙◌, subst, arith, append-nil, ◌⊎◌, ⊎_elim, inl, inr}
use Rattle.std.proofs.lemmas.List.{nil_from_length}
use mathlib.Core.List.{IsPrefix}
use Rattle.logbook.specs.Pages.{Book}
use Rattle.sup_types.specs.declared.text.Text.{Text}
use Rattle.sup_types.specs.declared.template.Template.{Template}
use Rattle.sup_types.specs.declared.history.Answer.{Answer}
use Rattle.sup_types.specs.declared.history.Operation.{Operation}
use Rattle.sup_types.specs.declared.history.Entry.{Entry}
use Rattle.sup_types.specs.declared.history.Reply.{Reply}
use Rattle.sup_log.specs.Tokens.{Publication, Told, history_of, in_one_step}
use base.Growing.{prefix_trans}
use Rattle.sup_desk.specs.declared.journal.JournalFault.{JournalFault}
use Rattle.sup_desk.specs.Books.{Kept, Written, grown_by, broken_by}
use Rattle.sup_desk.specs.Knowledge.{Knowledge, entries_of, with_entries}
use Rattle.sup_desk.specs.Batches.{AreEntered, IsApplied, IsQueueEntered}
use Rattle.sup_desk.specs.BatchLaws.{entered-entries, entered-replies}
use Rattle.sup_desk.specs.Results.{HasSeenMore}
use Rattle.sup_desk.proofs.Results.{HasMet, book_of, seen_all, has_met, seen_with, applied}

-- what the entries of a queue leave of the history
pub queue_left : (may_fail : JournalFault → Type 0) (book left : Kept) (entries : List Entry)
    → (left ≡ grown_by book entries) ⊎ ((f : JournalFault) × (entries ≡ []) × (left ≡ broken_by book f) × may_fail f)
    → (left.history ≡ book.history ++ entries) × (left.editions ≡ book.editions ++ in_one_step entries)
queue_left may_fail book left entries (inl is) = (ap (λ (k : Kept). k.history) is, ap (λ (k : Kept). k.editions) is)
queue_left may_fail book left entries (inr (f, none, is, may)) = (
  ap (λ (k : Kept). k.history) is ∙ sym (append-nil book.history) ∙ ap (λ (l : List Entry). book.history ++ l) (sym none),
  ap (λ (k : Kept). k.editions) is ∙ sym (append-nil book.editions) ∙ ap (λ (l : List Entry). book.editions ++ in_one_step l) (sym none),
)

pub queue_covered : (may : Text → ℕ → Answer → Type 0) (may_fail : JournalFault → Type 0) (template : Template) (book left : Kept) (before after : Knowledge) (operations : List Operation)
    (moment : ℕ) (replies : List Reply) → IsQueueEntered may may_fail template book before operations moment replies left after
    → IsPrefix before.front book.history → IsPrefix before.editions book.editions
    → IsPrefix after.front left.history × IsPrefix after.editions left.editions
queue_covered may may_fail template book left before after operations moment replies (entries, _, after_is, is) front editions =
    let same = queue_left may_fail book left entries is in (
      subst (λ (x : List Entry × Knowledge). IsPrefix x.1.front x.0) (λ i. (sym same.0 i, sym after_is i))
          (prefix_trans before.front book.history (book.history ++ entries) front (entries, refl)),
      subst (λ (x : List Publication × Knowledge). IsPrefix x.1.editions x.0) (λ i. (sym same.1 i, sym after_is i))
          (prefix_trans before.editions book.editions (book.editions ++ in_one_step entries) editions (in_one_step entries, refl)),
    )

-- operations that entered nothing have no reply
pub none_replied : (may : Text → ℕ → Answer → Type 0) (template : Template) (number moment : ℕ) (front : List Entry) (serial : ℕ) (operations : List Operation) (entries : List Entry) (replies : List Reply)
    → AreEntered may template number moment front serial operations entries replies → entries ≡ [] → replies ≡ []
none_replied may template number moment front serial operations entries replies entered none =
    nil_from_length replies
    (omega (arith, entered-entries may template number moment front serial operations entries replies entered, entered-replies may template number moment front serial operations entries replies entered, ap length none))

-- the caller of a queue, once it has seen what there is then
pub queue_shown : (may : Text → ℕ → Answer → Type 0) (may_fail : JournalFault → Type 0) (template : Template) (book left : Kept) (before after : Knowledge) (operations : List Operation)
    (moment : ℕ) (replies : List Reply) (entered : IsQueueEntered may may_fail template book before operations moment replies left after)
    → seen_all left after ≡ with_entries (seen_all book before) book.editions book.history entered.0
queue_shown may may_fail template book left before after operations moment replies (entries, _, after_is, is) =
    let same = queue_left may_fail book left entries is in
    λ i. record { number = (after_is i).number; editions = same.1 i; front = same.0 i; calls = (after_is i).calls }

module _ (may : Text → ℕ → Answer → Type 0) (may_fail : JournalFault → Type 0) (template : Template) (press : Book) (book : Kept) (before : Knowledge) (operations : List Operation) (moment : ℕ) (replies : List Reply) (left : Kept) (shown : Knowledge) where
  -- the handle that asked, once it was shown what there is then
  pub record QueueMet : Type 0 where
    pub has : HasMet book before (seen_all book before)
    pub entries : List Entry
    pub entered : AreEntered may template before.number moment book.history (length before.calls) operations entries replies
    pub shown_is : shown ≡ with_entries (seen_all book before) book.editions book.history entries
    pub left_is : (left ≡ grown_by book entries) ⊎ ((f : JournalFault) × (entries ≡ []) × (left ≡ broken_by book f) × may_fail f)

  pub queue_met : (first met last : Written) (caller known after : Knowledge) → book_of first ≡ book → caller ≡ before → (met ≡ first) × (known ≡ caller)
      → first.published ≡ history_of first.editions → entries_of first.published caller.number ≡ caller.calls
      → IsPrefix caller.front first.published × IsPrefix caller.editions first.editions
      → IsQueueEntered may may_fail template (book_of met) known operations moment replies left after → book_of last ≡ left
      → shown ≡ record { number = after.number; editions = last.editions; front = last.published; calls = after.calls } → QueueMet
  queue_met first met last caller known after book_is before_is same whole own covered entered left_is shown_is =
      let both : (book_of first, caller) ≡ (book, before) = λ i. (book_is i, before_is i) in
      let is : IsQueueEntered may may_fail template book before operations moment replies left after =
      subst (λ (x : Kept × Knowledge). IsQueueEntered may may_fail template x.0 x.1 operations moment replies left after)
      (λ i. ((ap book_of same.0 ∙ book_is) i, (same.1 ∙ before_is) i)) entered in
      record {
        has = has_met book before (subst (λ (k : Kept). k.history ≡ history_of k.editions) book_is whole)
            (subst (λ (x : Kept × Knowledge). entries_of x.0.history x.1.number ≡ x.1.calls) both own)
            (subst (λ (x : Kept × Knowledge). IsPrefix x.1.front x.0.history) both covered.0)
            (subst (λ (x : Kept × Knowledge). IsPrefix x.1.editions x.0.editions) both covered.1);
        entries = is.0;
        entered = is.1;
        shown_is = shown_is ∙ (λ i. record { number = after.number; editions = (left_is i).editions; front = (left_is i).history; calls = after.calls })
            ∙ queue_shown may may_fail template book left before after operations moment replies is;
        left_is = is.3;
      }

  pub queue_seen : QueueMet → HasSeenMore before shown
  queue_seen q = seen_with may template press book before (seen_all book before) shown moment q.has q.entries q.shown_is

  pub queue_entered : QueueMet
      → ((entries : List Entry) × AreEntered may template before.number moment book.history (length before.calls) operations entries replies × (left ≡ grown_by book entries))
      ⊎ ((f : JournalFault) × (replies ≡ []) × (left ≡ broken_by book f) × may_fail f)
  queue_entered q =
      ⊎_elim (λ is. inl (q.entries, q.entered, is))
      (λ (t : (f : JournalFault) × (q.entries ≡ []) × (left ≡ broken_by book f) × may_fail f).
      inr (t.0, none_replied may template before.number moment book.history (length before.calls) operations q.entries replies q.entered t.1, t.2, t.3))
      q.left_is

  pub queue_silent : QueueMet → replies ≡ [] → (shown.calls ≡ before.calls) × (shown.number ≡ before.number)
  queue_silent q none =
      let silent : q.entries ≡ [] = nil_from_length q.entries
      (omega (
        arith,
        ap length none,
        entered-entries may template before.number moment book.history (length before.calls) operations q.entries replies q.entered,
        entered-replies may template before.number moment book.history (length before.calls) operations q.entries replies q.entered,
      )) in (
        ap (λ (k : Knowledge). k.calls) q.shown_is ∙ ap (λ (l : List Entry). before.calls ++ l) silent ∙ append-nil before.calls,
        ap (λ (k : Knowledge). k.number) q.shown_is,
      )

  pub queue_applied : QueueMet → (told : Told) → told ≡ record { press = press; editions = shown.editions; front = shown.front }
      → IsApplied may template press before operations moment shown replies told
  queue_applied q told is = applied may template press book before (seen_all book before) shown moment q.has operations q.entries replies told q.entered q.shown_is is
