-- What a whole replay does: what it reads, what it writes, and how it ends.
use Rattle.std.specs.Prelude.{◌≡◌, ◌⊎◌, ℕ, ◌+◌, ◌≤◌, List, [], ◌∷◌, ◌++◌, length, Option, Result, Ok, Err}
use Rattle.std.specs.Io.KnownBytes.{Appends, Consumes}
use Rattle.sup_types.specs.declared.template.Template.{Template}
use Rattle.sup_types.specs.declared.history.Entry.{Entry}
use Rattle.sup_core.specs.Account.{reply_after}
use Rattle.sup_format.specs.declared.fault.Fault.{Fault}
use Rattle.sup_format.specs.declared.fault.Fault.TheVariants as fault
use Rattle.sup_format.specs.declared.fault.ScriptFault.{ScriptFault}
use Rattle.sup_format.specs.Causes.{IsTextFault}
use Rattle.sup_format.specs.Reading.Headers.{IsFirst}
use Rattle.sup_format.specs.Reading.History.{AreFirstWords, AreEntries, Spells}
use Rattle.sup_format.specs.Reading.HistoryReading.{HistoryStops}
use Rattle.sup_format.specs.Writing.Replies.{reply_text}
use Rattle.sup_format.specs.Reading.Texts.{EndsReading, IsEndedPart, lines_of}
use Rattle.sup_script.specs.Running.Stops.{IsAtLine, IsCutShort}

-- ---- replies

-- the text of the replies to entries after a history
abbrev pub entries_text : Template → List Entry → List Entry → List ℕ
entries_text template history [] = []
entries_text template history (e ∷ es) = reply_text (reply_after template history e) ++ entries_text template (history ++ e ∷ []) es

-- entries behind a first line, and the text of their replies from an empty supervisor
pub record IsReplayed (first : List ℕ) (body : List (List ℕ)) (text : List ℕ) : Type 0 where
  pub template : Template
  pub entries : List Entry
  pub first_is : IsFirst AreFirstWords first template
  pub entries_are : AreEntries body entries
  pub replies : text ≡ entries_text template [] entries

-- lines with no fault, and the text of their replies; the first line has none
abbrev pub Replays : List (List ℕ) → List ℕ → Type 0
Replays [] text = text ≡ []
Replays (first ∷ body) text = IsReplayed first body text

-- the making or the writing of the replies stopped in a line, or at an entry
abbrev pub ReplyStops : {X : Type 0} → (List X → List ℕ → Type 0) → List X → ℕ → List ℕ → Fault → Type 0
ReplyStops Texts lines number written fault.OutOfMemory = IsAtLine Texts lines number written
ReplyStops Texts lines number written fault.BadTemplate = ⊥
ReplyStops Texts lines number written fault.BadLine = ⊥
ReplyStops Texts lines number written fault.ReadFault = ⊥
ReplyStops Texts lines number written fault.WriteFault = IsCutShort Texts lines number written
ReplyStops Texts lines number written fault.TooLong = ⊥

-- what came of a text: the replies to its entries were written; or it has a fault, and nothing was written; or it has none, and
-- the making or the writing of the replies stopped
abbrev pub TextGives : List ℕ → Option (List ℕ) → Option (List ℕ) → Result (Unit {0}) ScriptFault → Type 0
TextGives text old new (Ok u) = (template : Template) × (entries : List Entry) × Spells text template entries × Appends old new (entries_text template [] entries)
TextGives text old new (Err e) =
    (HistoryStops text e.line e.fault × IsTextFault e.fault × Appends old new [])
    ⊎ ((template : Template) × (entries : List Entry) × (written : List ℕ) × Spells text template entries × Appends old new written × ReplyStops Replays (lines_of text) e.line written e.fault)

-- ---- a whole replay

-- the input ended, it spells a template and entries, and their replies were written
pub record IsWholeReplay (left : Option (List ℕ)) (given past written : List ℕ) : Type 0 where
  pub ended : EndsReading left given past (Ok tt)
  pub template : Template
  pub entries : List Entry
  pub spelled : Spells given template entries
  pub written_is : written ≡ entries_text template [] entries

-- the reading had this fault, which stands in the line after the last one that is ended, and nothing was written
pub record HasFaultyInput (left : Option (List ℕ)) (given past written : List ℕ) (e : ScriptFault) : Type 0 where
  pub ended : EndsReading left given past (Err e.fault)
  pub front : List ℕ
  pub lines : IsEndedPart given front
  pub line_is : e.line ≡ length (lines_of front) + 1
  pub none : written ≡ []

-- the input ended, and the text has a fault; nothing was written
pub record HasFaultyText (left : Option (List ℕ)) (given past written : List ℕ) (e : ScriptFault) : Type 0 where
  pub ended : EndsReading left given past (Ok tt)
  pub stops : HistoryStops given e.line e.fault
  pub kind : IsTextFault e.fault
  pub none : written ≡ []

-- the input ended and the text has no fault, but the making or the writing of the replies stopped
pub record HasStoppedReplying (left : Option (List ℕ)) (given past written : List ℕ) (e : ScriptFault) : Type 0 where
  pub ended : EndsReading left given past (Ok tt)
  pub template : Template
  pub entries : List Entry
  pub spelled : Spells given template entries
  pub stops : ReplyStops Replays (lines_of given) e.line written e.fault

abbrev pub ReplayOutcome : Option (List ℕ) → List ℕ → List ℕ → List ℕ → Result (Unit {0}) ScriptFault → Type 0
ReplayOutcome left given past written (Ok u) = IsWholeReplay left given past written
ReplayOutcome left given past written (Err e) =
    HasFaultyInput left given past written e ⊎ (HasFaultyText left given past written e ⊎ HasStoppedReplying left given past written e)

-- the replay took the given bytes from the reader, at most 2^24, and those past them, and appended what was written to the writer
pub record IsReplay (remaining left contents held : Option (List ℕ)) (result : Result (Unit {0}) ScriptFault) : Type 0 where
  pub given : List ℕ
  pub past : List ℕ
  pub written : List ℕ
  pub short : length given ≤ 16777216
  pub took : Consumes remaining left (given ++ past)
  pub wrote : Appends contents held written
  pub outcome : ReplayOutcome left given past written result
