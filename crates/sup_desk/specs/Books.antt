-- What stands under the lock, and when it is consistent.
use Rattle.std.specs.Prelude.{◌≡◌, ℕ, ◌+◌, List, [], ◌∷◌, ◌++◌, ◌≤◌, ◌⊎◌, Option, Some, None, ⊤}
use Rattle.logbook.specs.Pages.{Book}
use Rattle.atomic_table.specs.Seated.{TableId}
use Rattle.sup_types.specs.declared.template.Template.{Template}
use Rattle.sup_types.specs.declared.history.Entry.{Entry}
use Rattle.sup_log.specs.Tokens.{Publication, Record, in_one_step}
use Rattle.sup_desk.specs.declared.journal.JournalFault.{JournalFault}
use Rattle.sup_desk.specs.declared.faults.UpdateFault.{UpdateFault}
use Rattle.sup_desk.specs.declared.faults.UpdateFault.TheVariants.{Gone, Journal}

-- the name of no press
abbrev pub no_press : Book
no_press = record { number = 0; log_name = 0; cells_name = 0 }

-- the name of no sessions
abbrev pub no_sessions : TableId
no_sessions = record { words = 0; slots = 0; views_name = 0; atom = 0; block = 0; offset = 0; slot_names = [] }

-- the press of a ground, its template, its sessions, and how many handles there may be
pub record Plot : Type 0 where
  pub press : Book
  pub template : Template
  pub sessions : TableId
  pub handles : ℕ

-- the publications, the history that they make, how many handles were made, how many there may be, and the fault of the journal,
-- if it broke off
pub record Kept : Type 0 where
  pub editions : List Publication
  pub history : List Entry
  pub made : ℕ
  pub handles : ℕ
  pub fault : Option JournalFault

-- the same with entries that are not yet published
pub record Written : Type 0 where
  pub editions : List Publication
  pub published : List Entry
  pub pending : List Entry
  pub made : ℕ
  pub handles : ℕ
  pub fault : Option JournalFault

-- the book, after these entries in one publication
abbrev pub grown_by : Kept → List Entry → Kept
grown_by book entries = record { editions = book.editions ++ in_one_step entries; history = book.history ++ entries; made = book.made; handles = book.handles; fault = book.fault }

-- the book, once its journal broke off
abbrev pub broken_by : Kept → JournalFault → Kept
broken_by book fault = record { editions = book.editions; history = book.history; made = book.made; handles = book.handles; fault = Some fault }

-- a fault that a step can meet: the history is full, or memory is refused
abbrev pub IsOfStep : UpdateFault → Type 0
IsOfStep fault = (fault ≡ Gone → ⊥) × ((f : JournalFault) → fault ≡ Journal f → ⊥)

-- what a refused update leaves of the book: it is as it was, and a fault of the journal is the one that it had; or the journal broke
-- off by it, and the fault stays
abbrev pub IsLeft : (JournalFault → Type 0) → Kept → UpdateFault → Kept → Type 0
IsLeft may book fault left =
    ((left ≡ book) × ((f : JournalFault) → fault ≡ Journal f → (book.fault ≡ Some f) × may f))
    ⊎ ((f : JournalFault) × (fault ≡ Journal f) × (left ≡ broken_by book f) × may f)

-- nothing is pending, unless the journal broke off
abbrev pub IsClean : Option JournalFault → List Entry → Type 0
IsClean None pending = pending ≡ []
IsClean (Some fault) pending = ⊤

-- a handle with this number was made: numbers go from 1
abbrev pub IsMade : ℕ → ℕ → Type 0
IsMade made number = (1 ≤ number) × (number ≤ made)

-- what is written, with these entries too
abbrev pub with_pending : Written → List Entry → Written
with_pending before entries =
    record { editions = before.editions; published = before.published; pending = before.pending ++ entries; made = before.made; handles = before.handles; fault = before.fault }

-- a press with one entry more, which it has stepped
abbrev pub stepped_with : Record → Entry → Record
stepped_with r entry = record { press = r.press; template = r.template; editions = r.editions; published = r.published; pending = r.pending ++ entry ∷ []; stepped = r.stepped + 1; is_out = r.is_out }
