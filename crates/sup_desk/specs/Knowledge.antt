-- What a handle knows, and what a call makes of it.
use Rattle.std.specs.Prelude.{◌≡◌, ℕ, ◌==◌, List, [], ◌∷◌, ◌++◌, length, filter, Option, Some, None}
use mathlib.Core.List.{IsPrefix}
use Rattle.logbook.specs.Pages.{Book}
use Rattle.sup_types.specs.declared.text.Text.{Text}
use Rattle.sup_types.specs.declared.template.Template.{Template}
use Rattle.sup_types.specs.declared.history.Answer.{Answer}
use Rattle.sup_types.specs.declared.history.Answer.TheVariants.{Ignore}
use Rattle.sup_types.specs.declared.history.Operation.{Operation}
use Rattle.sup_types.specs.declared.history.Entry.{Entry}
use Rattle.sup_types.specs.declared.history.Reply.{Reply}
use Rattle.sup_core.specs.Replies.{asked_argument}
use Rattle.sup_core.specs.Account.{state_after, reply_after}
use Rattle.sup_log.specs.Tokens.{Publication, history_of, in_one_step, Told}

-- what an asker knows: the publications that it has seen, and the front that they make
pub record Asking : Type 0 where
  pub editions : List Publication
  pub front : List Entry

-- a handle's number, the publications that it has seen, the front that they make, and its own calls
pub record Knowledge : Type 0 where
  pub number : ℕ
  pub editions : List Publication
  pub front : List Entry
  pub calls : List Entry

-- the entries of a history that this handle made
abbrev pub entries_of : List Entry → ℕ → List Entry
entries_of history number = filter (λ entry. entry.handle == number) history

-- the history with entries of this handle, all in one publication
abbrev pub with_entries : Knowledge → List Publication → List Entry → List Entry → Knowledge
with_entries handle editions front entries =
    record { number = handle.number; editions = editions ++ in_one_step entries; front = front ++ entries; calls = handle.calls ++ entries }

-- what a start function that may answer like this says to an argument, if one is asked for
abbrev pub IsAnswerTo : (Text → ℕ → Answer → Type 0) → Option Text → ℕ → Answer → Type 0
IsAnswerTo may None moment answer = answer ≡ Ignore
IsAnswerTo may (Some arg) moment answer = may arg moment answer

-- the entry by which a handle asks for an operation after a front; the start function is asked at most once
pub record IsEntryOf (may : Text → ℕ → Answer → Type 0) (template : Template) (front : List Entry) (number serial : ℕ) (operation : Operation) (moment : ℕ) (entry : Entry) : Type 0 where
  pub handle_is : entry.handle ≡ number
  pub serial_is : entry.serial ≡ serial
  pub moment_is : entry.moment ≡ moment
  pub operation_is : entry.operation ≡ operation
  pub answer_is : IsAnswerTo may (asked_argument (state_after template front) operation moment) moment entry.answer

-- a front that a handle meets: it is whole publications, begins with all that the handle had seen, and has the handle's
-- calls, each once
pub record IsMet (handle : Knowledge) (editions : List Publication) (front : List Entry) : Type 0 where
  pub whole : front ≡ history_of editions
  pub more_editions : IsPrefix handle.editions editions
  pub more_front : IsPrefix handle.front front
  pub own : entries_of front handle.number ≡ handle.calls

-- an update is answered at the end of a front that the handle meets; then its entry is there too, in a publication of its own
pub record IsUpdated (may : Text → ℕ → Answer → Type 0) (template : Template) (press : Book) (before : Knowledge) (operation : Operation) (moment : ℕ) (after : Knowledge) (reply : Reply) (told : Told) : Type 0 where
  pub editions : List Publication
  pub front : List Entry
  pub entry : Entry
  pub met : IsMet before editions front
  pub entered : IsEntryOf may template front before.number (length before.calls) operation moment entry
  pub after_is : after ≡ with_entries before editions front (entry ∷ [])
  pub reply_is : reply ≡ reply_after template front entry
  pub told_is : told ≡ record { press = press; editions = after.editions; front = after.front }
