-- What the replay of a journal does: of a history text of any length, whose last line may be torn.
use Rattle.std.specs.Prelude.{◌≡◌, ◌⊎◌, ℕ, ◌+◌, ◌<◌, Bool, true, List, [], ◌++◌, length, codes, decimal, Option, Result, Ok, Err}
use Rattle.std.specs.Io.KnownBytes.{Appends, Consumes, IsAtEnd, Keeps}
use Rattle.sup_types.specs.declared.template.Template.{Template}
use Rattle.sup_types.specs.declared.history.Entry.{Entry}
use Rattle.sup_types.specs.declared.view.Counts.{Counts}
use Rattle.sup_types.specs.declared.view.Seen.{Seen}
use Rattle.sup_core.specs.Account.{IsAfter}
use Rattle.sup_core.specs.Queries.{count}
use Rattle.sup_core.specs.State.{State}
use Rattle.sup_format.specs.declared.fault.Fault.{Fault}
use Rattle.sup_format.specs.declared.fault.Fault.TheVariants as fault
use Rattle.sup_format.specs.declared.fault.ScriptFault.{ScriptFault}
use Rattle.sup_format.specs.Reading.History.{Spells}
use Rattle.sup_format.specs.Reading.HistoryReading.{HistoryStops, IsReadTo}
use Rattle.sup_format.specs.Reading.Streams.{HasStreamCause, IsStreamed, Stream}
use Rattle.sup_format.specs.Reading.Texts.{IsEndedPart}
use Rattle.sup_format.specs.Writing.Replies.{count_text}
use Rattle.sup_format.specs.Writing.Waiting.{IsTorn}
use Rattle.sup_script.specs.Running.Replays.{ReplyStops, entries_text}

-- the last line: how many entries there were, how many bytes of a torn line were left out, and the counts
abbrev pub last_text : ℕ → ℕ → Seen Counts → List ℕ
last_text entries torn counts = codes "entries " ++ (decimal entries ++ (codes " torn " ++ (decimal torn ++ (codes " " ++ count_text counts))))

-- the text of the replies to the entries of a journal
abbrev pub AreTold : Template → List Entry → List ℕ → Type 0
AreTold template entries text = text ≡ entries_text template [] entries

-- all of the stream was read: its whole lines spell these entries, whose replies were written, and then the last line; what is behind
-- the last line feed is left out
pub record IsWholeJournal (initial : Option (List ℕ)) (s : Stream) (contents held : Option (List ℕ)) : Type 0 where
  pub given : List ℕ
  pub took : Consumes initial s.left given
  pub at_end : IsAtEnd s.left
  pub whole : List ℕ
  pub torn : IsEndedPart given whole
  pub template : Template
  pub entries : List Entry
  pub spelled : Spells whole template entries
  pub wrote : Appends contents held (entries_text template [] entries ++ last_text (length entries) (length torn.rest) (count template entries))

-- the whole lines before this one were answered; before the first there is nothing to answer
abbrev pub AreAnswered : List ℕ → ℕ → List ℕ → Type 0
AreAnswered whole number written = ((number ≡ 1) × (written ≡ []))
    ⊎ ((rest : List ℕ) × (template : Template) × (entries : List Entry) × IsReadTo whole rest template entries number × (written ≡ entries_text template [] entries))

-- a part of the last line was written, and not all
pub record IsLastCut (whole written : List ℕ) (number : ℕ) : Type 0 where
  pub template : Template
  pub entries : List Entry
  pub spelled : Spells whole template entries
  pub rest : List ℕ
  pub read : IsReadTo whole rest template entries number
  pub torn : ℕ
  pub sent : List ℕ
  pub unsent : List ℕ
  pub some : 0 < length unsent
  pub written_is : written ≡ entries_text template [] entries ++ sent
  pub last : last_text (length entries) torn (count template entries) ≡ sent ++ unsent

-- the reply to an entry was not made, or not written: the first line has no reply, so entries are counted from 1 on and lines from 2 on
pub record IsReplyStopped (whole written : List ℕ) (e : ScriptFault) : Type 0 where
  pub rest : List ℕ
  pub next : ℕ
  pub template : Template
  pub entries : List Entry
  pub read : IsReadTo whole rest template entries next
  pub number : ℕ
  pub line_is : e.line ≡ number + 1
  pub stops : ReplyStops (AreTold template) entries number written e.fault

-- a line is wrong, or no more was read, and all lines before were answered; or a reply stopped
abbrev pub JournalStops : List ℕ → Bool → List ℕ → ScriptFault → Type 0
JournalStops whole has_failed written e =
    ((HistoryStops whole e.line e.fault ⊎ HasStreamCause has_failed e.fault) × AreAnswered whole e.line written)
    ⊎ (IsReplyStopped whole written e ⊎ ((e.fault ≡ fault.WriteFault) × IsLastCut whole written e.line))

-- so much of the stream was read, and this was written; the writer refused at a fault of writing
pub record IsStoppedJournal (initial : Option (List ℕ)) (s : Stream) (contents held : Option (List ℕ)) (has_refused : Bool) (e : ScriptFault) : Type 0 where
  pub given : List ℕ
  pub took : Consumes initial s.left given
  pub whole : List ℕ
  pub torn : IsEndedPart given whole
  pub written : List ℕ
  pub wrote : Appends contents held written
  pub stops : JournalStops whole s.has_failed written e
  pub cause : e.fault ≡ fault.WriteFault → has_refused ≡ true

abbrev pub IsJournal : Option (List ℕ) → Stream → Option (List ℕ) → Option (List ℕ) → Bool → Result (Unit {0}) ScriptFault → Type 0
IsJournal initial s contents held has_refused (Ok u) = IsWholeJournal initial s contents held
IsJournal initial s contents held has_refused (Err e) = IsStoppedJournal initial s contents held has_refused e

-- ---- the parts of a run

-- all that waited was written, and the fault stands in this line; or the writer refused
abbrev pub IsStop : List ℕ → List ℕ → Option (List ℕ) → Option (List ℕ) → Bool → ℕ → Fault → ScriptFault → Type 0
IsStop bytes ends old new has_refused line f e =
    (Appends old new bytes × (e ≡ record { fault = f; line = line })) ⊎ (IsTorn bytes ends old new line e × (has_refused ≡ true))

-- all entries were answered
pub record AreAllAnswered (initial : Option (List ℕ)) (s : Stream) (template : Template) (sup : State) (contents held : Option (List ℕ)) : Type 0 where
  pub entries : List Entry
  pub read : IsStreamed initial s [] template entries
  pub none : s.ready ≡ []
  pub at_end : IsAtEnd s.left
  pub after : IsAfter sup entries
  pub template_is : sup.template ≡ template
  pub wrote : Appends contents held (entries_text template [] entries)

abbrev pub EndsAnswering : Option (List ℕ) → Stream → Template → State → Option (List ℕ) → Option (List ℕ) → Bool → Result (Unit {0}) ScriptFault → Type 0
EndsAnswering initial s template sup contents held has_refused (Ok u) = AreAllAnswered initial s template sup contents held
EndsAnswering initial s template sup contents held has_refused (Err e) = IsStoppedJournal initial s contents held has_refused e

-- this text was written as the line of this number, or not all of it
abbrev pub EndsTelling : List ℕ → ℕ → Option (List ℕ) → Option (List ℕ) → Bool → Result (Unit {0}) ScriptFault → Type 0
EndsTelling text number old new has_refused (Ok u) = Appends old new text
EndsTelling text number old new has_refused (Err e) = (e.line ≡ number)
    × (((e.fault ≡ fault.OutOfMemory) × Keeps old new)
    ⊎ ((e.fault ≡ fault.WriteFault) × (has_refused ≡ true) × ((sent : List ℕ) × (unsent : List ℕ) × (text ≡ sent ++ unsent) × (0 < length unsent) × Appends old new sent)))
