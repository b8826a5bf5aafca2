-- What a journal that was not begun leaves in its writer.
use Rattle.std.specs.Prelude.{◌≡◌, ℕ, List, Option}
use Rattle.std.specs.Io.KnownBytes.{Keeps}
use Rattle.sup_types.specs.declared.template.Template.{Template}
use Rattle.sup_types.specs.declared.history.Entry.{Entry}
use Rattle.sup_format.specs.Reading.History.{SpellsAs}
use Rattle.sup_format.specs.Writing.HistoryTexts.{header_line}
use Rattle.sup_journal.specs.declared.fault.OpenFault.{OpenFault}
use Rattle.sup_journal.specs.declared.fault.OpenFault.TheVariants as opening
use Rattle.sup_journal.specs.Records.{TookPart}

-- memory was refused and the writer took nothing, or it refused and took a part of a text
abbrev pub LeavesPart : OpenFault → Option (List ℕ) → Option (List ℕ) → (List ℕ → Type 0) → Type 0
LeavesPart opening.OutOfMemory old new is_text = Keeps old new
LeavesPart (opening.Refused fault) old new is_text = (text : List ℕ) × is_text text × TookPart old new text
LeavesPart opening.InUse old new is_text = ⊥
LeavesPart (opening.File cause) old new is_text = ⊥
LeavesPart (opening.Cut cause) old new is_text = ⊥
LeavesPart (opening.WrongLine wrong) old new is_text = ⊥
LeavesPart (opening.OtherTemplate part there here) old new is_text = ⊥
LeavesPart opening.NoJournal old new is_text = ⊥
LeavesPart (opening.Desk fault) old new is_text = ⊥

-- nothing, or a part of the first line
abbrev pub Leaves : OpenFault → Option (List ℕ) → Option (List ℕ) → Template → Type 0
Leaves fault old new template = LeavesPart fault old new (λ text. text ≡ header_line template)

-- nothing, or a part of the text of a history
abbrev pub LeavesText : OpenFault → Option (List ℕ) → Option (List ℕ) → Template → List Entry → Type 0
LeavesText fault old new template entries = LeavesPart fault old new (λ text. SpellsAs text template entries)
