-- What an update of a handle that has met the history says of the handle that asked for it.
use Rattle.std.proofs.Common.{◌≡◌, ℕ, ◌<◌, List, [], ◌∷◌, ◌++◌, length, refl, ap, ap₂, sym, ◌∙◌, subst, arith, length-append, append-nil, inl, inr}
use Rattle.std.specs.Result.{IfOk, IfErr, OnErr, MatchResult}
use Rattle.std.specs.declared.result.Result.{Result}
use Rattle.std.specs.declared.result.Result.TheVariants.{Ok, Err}
use mathlib.Core.List.{IsPrefix}
use Rattle.logbook.specs.Pages.{Book}
use Rattle.sup_types.specs.declared.text.Text.{Text}
use Rattle.sup_types.specs.declared.template.Template.{Template}
use Rattle.sup_types.specs.declared.history.Answer.{Answer}
use Rattle.sup_types.specs.declared.history.Operation.{Operation}
use Rattle.sup_types.specs.declared.history.Entry.{Entry}
use Rattle.sup_types.specs.declared.history.Reply.{Reply}
use Rattle.sup_core.specs.Account.{reply_after}
use Rattle.sup_log.specs.Tokens.{Publication, Told, history_of, in_one_step}
use base.Growing.{prefix_trans}
use Rattle.sup_desk.specs.declared.laws.Done.{Done}
use Rattle.sup_desk.specs.declared.faults.UpdateFault.{UpdateFault}
use Rattle.sup_desk.specs.declared.faults.UpdateFault.TheVariants.{HistoryFull, OutOfMemory, Gone}
use Rattle.sup_desk.specs.declared.journal.JournalFault.{JournalFault}
use Rattle.sup_desk.specs.Books.{Kept, Written, IsLeft, grown_by}
use Rattle.sup_desk.specs.Knowledge.{Knowledge, entries_of, with_entries, IsEntryOf, IsMet, IsUpdated}
use Rattle.sup_desk.specs.Batches.{AreEntered, IsApplied, IsOneEntered}
use Rattle.sup_desk.specs.EntryLaws.{entries-append, entries-own}
use Rattle.sup_desk.specs.Results.{HasSeenMore, IsUpdateResult}

-- a handle that has met the history of the book, in which its calls are all that stand under its number
pub record HasMet (book : Kept) (before met : Knowledge) : Type 0 where
  pub front : met.front ≡ book.history
  pub editions_are : met.editions ≡ book.editions
  pub whole : met.front ≡ history_of met.editions
  pub own : entries_of met.front met.number ≡ met.calls
  pub seen : HasSeenMore before met
  pub calls : (met.calls ≡ before.calls) × (met.number ≡ before.number)

-- the book of a transaction
abbrev pub book_of : Written → Kept
book_of t = record { editions = t.editions; history = t.published; made = t.made; handles = t.handles; fault = t.fault }

-- the handle, once it has seen all of the book
abbrev pub seen_all : Kept → Knowledge → Knowledge
seen_all book handle = record { number = handle.number; editions = book.editions; front = book.history; calls = handle.calls }

pub has_met : (book : Kept) (before : Knowledge) → book.history ≡ history_of book.editions → entries_of book.history before.number ≡ before.calls
    → IsPrefix before.front book.history → IsPrefix before.editions book.editions → HasMet book before (seen_all book before)
has_met book before whole own front editions = record {
  front = refl;
  editions_are = refl;
  whole = whole;
  own = own;
  seen = record { editions = editions; front = front };
  calls = (refl, refl);
}

-- what a refused update leaves has the same history
left_same : (may_fail : JournalFault → Type 0) (book left : Kept) (fault : UpdateFault) → IsLeft may_fail book fault left
    → (left.history ≡ book.history) × (left.editions ≡ book.editions)
left_same may_fail book left fault (inl same) = (ap (λ (k : Kept). k.history) same.0, ap (λ (k : Kept). k.editions) same.0)
left_same may_fail book left fault (inr broken) = (ap (λ (k : Kept). k.history) broken.2, ap (λ (k : Kept). k.editions) broken.2)

-- what the caller of an update had seen begins what there is then
pub one_covered : (may : Text → ℕ → Answer → Type 0) (may_fail : JournalFault → Type 0) (template : Template) (book left : Kept) (before after : Knowledge) (operation : Operation)
    (moment : ℕ) (result : Result Reply UpdateFault) → IfOk result (λ reply. IsOneEntered may template book before operation moment reply left after)
    → OnErr result (after ≡ before) → IfErr result (λ e. IsLeft may_fail book e left) → IsPrefix before.front book.history → IsPrefix before.editions book.editions
    → IsPrefix after.front left.history × IsPrefix after.editions left.editions
one_covered may may_fail template book left before after operation moment (Ok reply) (entry, _, _, is, after_is) kept stays front editions = (
  subst (λ (x : Kept × Knowledge). IsPrefix x.1.front x.0.history) (λ i. (sym is i, sym after_is i))
      (prefix_trans before.front book.history (book.history ++ entry ∷ []) front (entry ∷ [], refl)),
  subst (λ (x : Kept × Knowledge). IsPrefix x.1.editions x.0.editions) (λ i. (sym is i, sym after_is i))
      (prefix_trans before.editions book.editions (book.editions ++ in_one_step (entry ∷ [])) editions (in_one_step (entry ∷ []), refl)),
)
one_covered may may_fail template book left before after operation moment (Err e) entered kept stays front editions =
    let same = left_same may_fail book left e stays in (
      subst (λ (x : List Entry × Knowledge). IsPrefix x.1.front x.0) (λ i. (sym same.0 i, sym kept i)) front,
      subst (λ (x : List Publication × Knowledge). IsPrefix x.1.editions x.0) (λ i. (sym same.1 i, sym kept i)) editions,
    )

module _ (may : Text → ℕ → Answer → Type 0) (template : Template) (press : Book) (book : Kept) (before met after : Knowledge) (moment : ℕ) (has : HasMet book before met) where
  pub is_met : IsMet before book.editions book.history
  is_met = record {
    whole = sym has.front ∙ has.whole ∙ ap history_of has.editions_are;
    more_editions = subst (λ (l : List Publication). IsPrefix before.editions l) has.editions_are has.seen.editions;
    more_front = subst (λ (l : List Entry). IsPrefix before.front l) has.front has.seen.front;
    own = ap (entries_of book.history) (sym has.calls.1) ∙ ap (λ (l : List Entry). entries_of l met.number) (sym has.front) ∙ has.own ∙ has.calls.0;
  }

  -- the handle with these entries, told of the handle as it was
  pub with_same : (entries : List Entry) → with_entries met book.editions book.history entries ≡ with_entries before book.editions book.history entries
  with_same entries = λ i. record {
    number = has.calls.1 i;
    editions = book.editions ++ in_one_step entries;
    front = book.history ++ entries;
    calls = has.calls.0 i ++ entries;
  }

  pub seen_with : (entries : List Entry) → after ≡ with_entries met book.editions book.history entries → HasSeenMore before after
  seen_with entries is = record {
    editions = subst (λ (k : Knowledge). IsPrefix before.editions k.editions) (sym is)
        (prefix_trans before.editions book.editions (book.editions ++ in_one_step entries) is_met.more_editions (in_one_step entries, refl));
    front = subst (λ (k : Knowledge). IsPrefix before.front k.front) (sym is)
        (prefix_trans before.front book.history (book.history ++ entries) is_met.more_front (entries, refl));
  }

  -- entries of this handle are its own calls, too
  own_with : (entries : List Entry) → after ≡ with_entries met book.editions book.history entries → entries_of entries met.number ≡ entries → entries_of after.front after.number ≡ after.calls
  own_with entries is mine =
      subst (λ (k : Knowledge). entries_of k.front k.number ≡ k.calls) (sym is)
      (entries-append met.number book.history entries ∙ ap₂ (λ (a b : List Entry). a ++ b) (ap (λ (l : List Entry). entries_of l met.number) (sym has.front) ∙ has.own) mine)

  -- no operation is entered as none
  pub none_applied : (operations : List Operation) (replies : List Reply) (told : Told) → operations ≡ [] → replies ≡ []
      → told ≡ record { press = press; editions = met.editions; front = met.front } → IsApplied may template press before operations moment met replies told
  none_applied operations replies told none silent is = record {
    editions = book.editions;
    front = book.history;
    entries = [];
    met = is_met;
    entered = subst (λ (l : List Operation). AreEntered may template before.number moment book.history (length before.calls) l [] replies) (sym none) (refl, silent);
    after_is = λ i. record {
      number = has.calls.1 i;
      editions = (has.editions_are ∙ sym (append-nil book.editions)) i;
      front = (has.front ∙ sym (append-nil book.history)) i;
      calls = (has.calls.0 ∙ sym (append-nil before.calls)) i;
    };
    told_is = is;
  }

  updated : (operation : Operation) (done : Done) (entry : Entry) → IsEntryOf may template book.history met.number (length met.calls) operation moment entry
      → done.reply ≡ reply_after template book.history entry → after ≡ with_entries met book.editions book.history (entry ∷ [])
      → done.ticket ≡ record { press = press; editions = after.editions; front = after.front }
      → IsUpdated may template press before operation moment after done.reply done.ticket
  updated operation done entry entered reply is told = record {
    editions = book.editions;
    front = book.history;
    entry = entry;
    met = is_met;
    entered = subst (λ (n : ℕ). IsEntryOf may template book.history n (length before.calls) operation moment entry) has.calls.1
        (subst (λ (l : List Entry). IsEntryOf may template book.history met.number (length l) operation moment entry) has.calls.0 entered);
    after_is = is ∙ with_same (entry ∷ []);
    reply_is = reply;
    told_is = told;
  }

  pub update_result : (operation : Operation) (left : Kept) (result : Result Done UpdateFault)
      → IfOk result (λ done. (entry : Entry) × IsEntryOf may template book.history met.number (length met.calls) operation moment entry
      × (done.reply ≡ reply_after template book.history entry) × (left ≡ grown_by book (entry ∷ [])) × (after ≡ with_entries met book.editions book.history (entry ∷ [])))
      → IfOk result (λ done. done.ticket ≡ record { press = press; editions = after.editions; front = after.front })
      → OnErr result (after ≡ met)
      → IfErr result (λ e. e ≡ HistoryFull → length book.history ≡ template.entries)
      → MatchResult result (λ _. length book.history < template.entries) (λ e. e ≡ OutOfMemory → length book.history < template.entries)
      → IfErr result (λ e. e ≡ Gone → ⊥)
      → IsUpdateResult may template press before operation moment after result
  update_result operation left (Ok done) (entry, entered, reply, book', is) told kept full room gone = record {
    ok = updated operation done entry entered reply is told;
    seen = seen_with (entry ∷ []) is;
    calls = tt;
    own = own_with (entry ∷ []) is (entries-own met.number entry entered.handle_is);
    gone = tt;
    full = tt;
    room = omega (arith, ap (λ (k : Knowledge). length k.front) is, length-append book.history (entry ∷ []), room);
  }
  update_result operation left (Err e) entered told kept full room gone =
      let own : entries_of after.front after.number ≡ after.calls = subst (λ (k : Knowledge). entries_of k.front k.number ≡ k.calls) (sym kept) has.own in
      record {
        ok = tt;
        seen = subst (λ (k : Knowledge). HasSeenMore before k) (sym kept) has.seen;
        calls = (ap (λ (k : Knowledge). k.calls) kept ∙ has.calls.0, ap (λ (k : Knowledge). k.number) kept ∙ has.calls.1);
        own = own;
        gone = gone;
        full = λ is. ap (λ (k : Knowledge). length k.front) kept ∙ ap length has.front ∙ full is;
        room = λ is. subst (λ (n : ℕ). n < template.entries) (sym (ap (λ (k : Knowledge). length k.front) kept ∙ ap length has.front)) (room is);
      }

  -- the operations of a batch
  pub applied : (operations : List Operation) (entries : List Entry) (replies : List Reply) (told : Told)
      → AreEntered may template met.number moment book.history (length met.calls) operations entries replies
      → after ≡ with_entries met book.editions book.history entries
      → told ≡ record { press = press; editions = after.editions; front = after.front }
      → IsApplied may template press before operations moment after replies told
  applied operations entries replies told entered is ticket = record {
    editions = book.editions;
    front = book.history;
    entries = entries;
    met = is_met;
    entered = subst (λ (n : ℕ). AreEntered may template n moment book.history (length before.calls) operations entries replies) has.calls.1
        (subst (λ (l : List Entry). AreEntered may template met.number moment book.history (length l) operations entries replies) has.calls.0 entered);
    after_is = is ∙ with_same entries;
    told_is = ticket;
  }
