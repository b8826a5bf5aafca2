-- Many operations that are entered together, each as an update of its own.
use Rattle.std.specs.Prelude.{◌≡◌, ℕ, ◌+◌, List, [], ◌∷◌, ◌++◌, length, ◌⊎◌}
use Rattle.logbook.specs.Pages.{Book}
use Rattle.sup_types.specs.declared.text.Text.{Text}
use Rattle.sup_types.specs.declared.template.Template.{Template}
use Rattle.sup_types.specs.declared.history.Answer.{Answer}
use Rattle.sup_types.specs.declared.history.Operation.{Operation}
use Rattle.sup_types.specs.declared.history.Entry.{Entry}
use Rattle.sup_types.specs.declared.history.Reply.{Reply}
use Rattle.sup_core.specs.Account.{reply_after}
use Rattle.sup_log.specs.Tokens.{Publication, Told}
use Rattle.sup_desk.specs.Knowledge.{Knowledge, entries_of, IsEntryOf, IsMet, with_entries}
use Rattle.sup_desk.specs.declared.journal.JournalFault.{JournalFault}
use Rattle.sup_desk.specs.Books.{Kept, Written, grown_by, broken_by, with_pending}

-- these operations, asked for in order after a front by the handle with this number that has made so many calls before:
-- their entries and their replies
abbrev pub AreEntered : (Text → ℕ → Answer → Type 0) → Template → ℕ → ℕ → List Entry → ℕ → List Operation → List Entry → List Reply → Type 0
AreEntered may template number moment front serial [] entries replies = (entries ≡ []) × (replies ≡ [])
AreEntered may template number moment front serial (operation ∷ operations) entries replies =
    (e : Entry) × (es : List Entry) × (rs : List Reply) × (entries ≡ e ∷ es) × (replies ≡ reply_after template front e ∷ rs)
    × IsEntryOf may template front number serial operation moment e
    × AreEntered may template number moment (front ++ e ∷ []) (serial + 1) operations es rs

-- the operations are answered at the end of one front that the handle meets; then their entries are there too, in one
-- publication
pub record IsApplied (may : Text → ℕ → Answer → Type 0) (template : Template) (press : Book) (before : Knowledge) (operations : List Operation) (moment : ℕ) (after : Knowledge) (replies : List Reply) (told : Told) : Type 0 where
  pub editions : List Publication
  pub front : List Entry
  pub entries : List Entry
  pub met : IsMet before editions front
  pub entered : AreEntered may template before.number moment front (length before.calls) operations entries replies
  pub after_is : after ≡ with_entries before editions front entries
  pub told_is : told ≡ record { press = press; editions = after.editions; front = after.front }

-- the operations were written one after another, for the handle with this number
abbrev pub AreWritten : (Text → ℕ → Answer → Type 0) → Template → Written → ℕ → ℕ → List Operation → List Reply → Written → Type 0
AreWritten may template before number moment operations replies after =
    (entries : List Entry)
    × AreEntered may template number moment (before.published ++ before.pending) (length (entries_of (before.published ++ before.pending) number)) operations entries replies
    × (after ≡ with_pending before entries)

-- the operation was entered for the caller, in a publication of its own
abbrev pub IsOneEntered : (Text → ℕ → Answer → Type 0) → Template → Kept → Knowledge → Operation → ℕ → Reply → Kept → Knowledge → Type 0
IsOneEntered may template book before operation moment reply left after =
    (entry : Entry)
    × IsEntryOf may template book.history before.number (length before.calls) operation moment entry
    × (reply ≡ reply_after template book.history entry)
    × (left ≡ grown_by book (entry ∷ []))
    × (after ≡ record { number = before.number; editions = before.editions; front = before.front; calls = before.calls ++ entry ∷ [] })

-- the operations were entered for the caller, in one publication; or the journal broke off, and there is no such operation
abbrev pub IsQueueEntered : (Text → ℕ → Answer → Type 0) → (JournalFault → Type 0) → Template → Kept → Knowledge → List Operation → ℕ → List Reply → Kept → Knowledge → Type 0
IsQueueEntered may may_fail template book before operations moment replies left after =
    (entries : List Entry)
    × AreEntered may template before.number moment book.history (length before.calls) operations entries replies
    × (after ≡ record { number = before.number; editions = before.editions; front = before.front; calls = before.calls ++ entries })
    × ((left ≡ grown_by book entries) ⊎ ((f : JournalFault) × (entries ≡ []) × (left ≡ broken_by book f) × may_fail f))
