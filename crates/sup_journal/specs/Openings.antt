-- How a journal continues after a text that its file had.
use Rattle.std.specs.Prelude.{◌≡◌, ◌⊎◌, ℕ, Bool, List, [], ◌∷◌, ◌++◌, Option, Result, Ok, Err, MatchResult}
use Rattle.std.specs.Io.{StartsWith}
use Rattle.std.specs.Io.KnownBytes.{Consumes, IsAtEnd}
use Rattle.sup_types.specs.declared.template.Template.{Template}
use Rattle.sup_types.specs.declared.history.Entry.{Entry}
use Rattle.sup_format.specs.declared.fault.Fault.{Fault}
use Rattle.sup_format.specs.declared.fault.Fault.TheVariants as line_fault
use Rattle.sup_format.specs.Reading.History.{SpellsAs}
use Rattle.sup_format.specs.Reading.HistoryReading.{HistoryStops, IsReadTo}
use Rattle.sup_format.specs.Reading.Streams.{HasStreamCause, IsStreamed, Stream}
use Rattle.sup_format.specs.Reading.Texts.{IsEndedPart, IsFull}
use Rattle.sup_format.specs.Writing.HistoryTexts.{header_line}
use Rattle.sup_desk.specs.Recoveries.{StopsAt}
use Rattle.sup_journal.specs.declared.fault.OpenFault.{OpenFault}
use Rattle.sup_journal.specs.declared.fault.OpenFault.TheVariants as opening

-- the text begins with the first line of this template
abbrev pub HasFirstLine : List ℕ → Template → Type 0
HasFirstLine text template = StartsWith text (header_line template)

-- the text is a part of that line, and not all: there may be nothing
abbrev pub IsUnbegun : List ℕ → Template → Type 0
IsUnbegun text template = ¬ HasFirstLine text template × StartsWith (header_line template) text

-- the journal continues with these entries: those that the whole lines spell, or none where the text is unbegun
abbrev pub GoesOnWith : List ℕ → Template → List Entry → Type 0
GoesOnWith text template entries = (HasFirstLine text template × ((whole : List ℕ) × IsEndedPart text whole × SpellsAs whole template entries))
    ⊎ (IsUnbegun text template × (entries ≡ []))

-- something of the file is cut off: it begins anew, or its last line has no end
abbrev pub WantsCut : List ℕ → Template → Type 0
WantsCut text template = IsUnbegun text template ⊎ ¬ IsFull text

-- the whole lines of the text begin with those of these entries
abbrev pub BeginsWith : List ℕ → Template → List Entry → Type 0
BeginsWith text template entries = HasFirstLine text template × ((whole : List ℕ) × IsEndedPart text whole
    × ((rest : List ℕ) × (read : Template) × (line : ℕ) × IsReadTo whole rest read entries line))

-- the text begins neither with the first line of this template nor that line with it
abbrev pub BeginsOtherwise : List ℕ → Template → Type 0
BeginsOtherwise text template = ¬ HasFirstLine text template × ¬ StartsWith (header_line template) text

-- the fault has its cause in the text that was read; memory may be wanting, and the reading fail, at any time
abbrev pub IsCauseOf : OpenFault → List ℕ → Template → ℕ → Type 0
IsCauseOf opening.OutOfMemory text template handles = Unit {0}
IsCauseOf opening.InUse text template handles = ⊥
IsCauseOf (opening.File cause) text template handles = Unit {0}
IsCauseOf (opening.Cut cause) text template handles = WantsCut text template
IsCauseOf (opening.WrongLine wrong) text template handles = HasFirstLine text template
    × ¬ (wrong.fault ≡ line_fault.OutOfMemory) × ((whole : List ℕ) × IsEndedPart text whole × HistoryStops whole wrong.line wrong.fault)
IsCauseOf (opening.OtherTemplate part there here) text template handles = BeginsOtherwise text template
IsCauseOf opening.NoJournal text template handles = BeginsOtherwise text template
IsCauseOf (opening.Refused fault) text template handles = IsUnbegun text template
IsCauseOf (opening.Desk fault) text template handles = (before : List Entry) × (entry : Entry)
    × BeginsWith text template (before ++ entry ∷ []) × StopsAt fault template handles before entry

-- so much of the file was read: all of it, and the journal continues with these entries; or a fault has its cause there
abbrev pub IsContinued : {J : Type 0} → Option (List ℕ) → Template → ℕ → List Entry → Result J OpenFault → Type 0
IsContinued initial template handles entries result = (text : List ℕ) × (left : Option (List ℕ)) × Consumes initial left text
    × MatchResult result (λ _. IsAtEnd left × GoesOnWith text template entries) (λ fault. IsCauseOf fault text template handles)

-- the whole line of this number has this fault
abbrev pub IsWrongIn : List ℕ → Template → ℕ → Fault → Type 0
IsWrongIn text template line fault = HasFirstLine text template × ((whole : List ℕ) × IsEndedPart text whole × HistoryStops whole line fault)

-- the reading of a text stopped in the line of this number, or no more was read
abbrev pub StopsIn : List ℕ → Template → ℕ → Bool → Fault → Type 0
StopsIn text template line has_failed fault = IsWrongIn text template line fault ⊎ HasStreamCause has_failed fault

-- all entries were read and entered, or a fault has its cause in what was read
abbrev pub EntersAll : Option (List ℕ) → Template → ℕ → Stream → Template → List Entry → Result (Unit {0}) OpenFault → Type 0
EntersAll initial template handles s read entries (Ok u) = IsStreamed initial s (header_line template) read entries × (s.ready ≡ []) × IsAtEnd s.left
EntersAll initial template handles s read entries (Err f) = (text : List ℕ) × Consumes initial s.left text × IsCauseOf f text template handles
