-- What a journal's writer took.
use Rattle.std.specs.Prelude.{◌≡◌, ℕ, ◌<◌, List, ◌++◌, length, Option, Result, Ok, Err}
use Rattle.std.specs.Io.KnownBytes.{Appends}
use Rattle.sup_types.specs.declared.template.Template.{Template}
use Rattle.sup_types.specs.declared.history.Entry.{Entry}
use Rattle.sup_format.specs.Reading.History.{SpellsAs}
use Rattle.sup_desk.specs.declared.journal.JournalFault.{JournalFault}
use Rattle.sup_journal.specs.Ends.{IsStopped, IsLeft}

-- behind what it held at first the writer took the text of the recorded history; with the bytes that wait, that is the text of
-- the ready entries, too
pub record IsRecorded (held contents : Option (List ℕ)) (waiting : List ℕ) (template : Template) (recorded ready : List Entry) : Type 0 where
  pub text : List ℕ
  pub took : Appends held contents text
  pub spelled : SpellsAs text template recorded
  pub waits : SpellsAs (text ++ waiting) template (recorded ++ ready)

-- behind that text the writer took a first part of the lines of the ready entries: all of them where a flush failed, and not all
-- where a write stopped
pub record IsCut (held contents : Option (List ℕ)) (ended : Option JournalFault) (template : Template) (recorded ready : List Entry) : Type 0 where
  pub text : List ℕ
  pub part : List ℕ
  pub left : List ℕ
  pub took : Appends held contents (text ++ part)
  pub is_left : IsLeft ended left
  pub spelled : SpellsAs text template recorded
  pub whole : SpellsAs (text ++ (part ++ left)) template (recorded ++ ready)

-- behind what it held at first the writer holds the text of this history
abbrev pub HasText : Option (List ℕ) → Option (List ℕ) → Template → List Entry → Type 0
HasText held contents template entries = (text : List ℕ) × Appends held contents text × SpellsAs text template entries

-- ---- one sending

-- the writer took a first part of the bytes, and not all
pub record TookPart (old new : Option (List ℕ)) (bytes : List ℕ) : Type 0 where
  pub part : List ℕ
  pub left : List ℕ
  pub parts : bytes ≡ part ++ left
  pub took : Appends old new part
  pub some_left : 0 < length left

-- it took all of them, or a write stopped
abbrev pub IsSentOrCut : Option (List ℕ) → Option (List ℕ) → List ℕ → Result (Unit {0}) JournalFault → Type 0
IsSentOrCut old new bytes (Ok u) = Appends old new bytes
IsSentOrCut old new bytes (Err e) = IsStopped e × TookPart old new bytes

-- it took all of them, also where it then failed to flush, or a write stopped
abbrev pub IsPut : Option (List ℕ) → Option (List ℕ) → List ℕ → Result (Unit {0}) JournalFault → Type 0
IsPut old new bytes (Ok u) = Appends old new bytes
IsPut old new bytes (Err e) = (IsStopped e → TookPart old new bytes) × (¬ IsStopped e → Appends old new bytes)
