-- How a program answers a text or a journal, and its exit statuses.
use Rattle.std.specs.Prelude.{◌≡◌, ◌⊎◌, ℕ, Bool, List, Option, None, Some, Result, Ok, Err, IfErr}
use Rattle.sup_format.specs.Causes.{HasCause}
use Rattle.sup_format.specs.Reading.Streams.{Stream}
use Rattle.sup_script.specs.Running.Journals.{IsJournal}
use Rattle.sup_script.specs.Running.Replays.{IsReplay}
use Rattle.sup_script.specs.Running.Runs.{IsRun}
use Rattle.sup_script.specs.Starter.{script_answer}
use Rattle.sup_script.specs.declared.explain.Format.{Format}
use Rattle.sup_script.specs.declared.explain.Format.TheVariants as format
use Rattle.sup_format.specs.declared.fault.Fault.{Fault}
use Rattle.sup_format.specs.declared.fault.Fault.TheVariants as fault
use Rattle.sup_format.specs.declared.fault.ScriptFault.{ScriptFault}
use Rattle.sup_script.specs.declared.runs.answer.Input.{Input}
use Rattle.sup_script.specs.declared.runs.answer.Input.TheVariants as input
use Rattle.sup_script.specs.declared.runs.answer.Status.{Status}
use Rattle.sup_script.specs.declared.runs.answer.Status.TheVariants as status

abbrev pub status_number : Status → ℕ
status_number status.Done = 0
status_number status.BadInput = 2
status_number status.Failed = 3
status_number status.OtherFault = 4
status_number status.GaveUp = 5

-- what is wrong with the input, what failed outside, and want of memory are told apart
abbrev pub status_of_fault : Fault → Status
status_of_fault fault.OutOfMemory = status.OtherFault
status_of_fault fault.BadTemplate = status.BadInput
status_of_fault fault.BadLine = status.BadInput
status_of_fault fault.ReadFault = status.Failed
status_of_fault fault.WriteFault = status.Failed
status_of_fault fault.TooLong = status.BadInput

-- how a run ended
abbrev pub status_of : Result (Unit {0}) ScriptFault → Status
status_of (Ok u) = status.Done
status_of (Err e) = status_of_fault e.fault

-- a script was run, the status is that of the run's outcome, and a fault has its cause
pub record IsScriptAnswered (remaining left contents held : Option (List ℕ)) (has_failed : Bool) (given : ℕ) (has_refused : Bool) (status : Status) : Type 0 where
  pub outcome : Result (Unit {0}) ScriptFault
  pub run : IsRun script_answer remaining left contents held outcome
  pub cause : IfErr outcome (λ e. HasCause has_failed given has_refused e.fault)
  pub status_is : status ≡ status_of outcome

-- the same of a history text, which was replayed
pub record IsReplayAnswered (remaining left contents held : Option (List ℕ)) (has_failed : Bool) (given : ℕ) (has_refused : Bool) (status : Status) : Type 0 where
  pub outcome : Result (Unit {0}) ScriptFault
  pub replay : IsReplay remaining left contents held outcome
  pub cause : IfErr outcome (λ e. HasCause has_failed given has_refused e.fault)
  pub status_is : status ≡ status_of outcome

-- a text of this format was answered
abbrev pub IsTextAnswered : Format → Option (List ℕ) → Option (List ℕ) → Option (List ℕ) → Option (List ℕ) → Bool → ℕ → Bool → Status → Type 0
IsTextAnswered format.Script = IsScriptAnswered
IsTextAnswered format.History = IsReplayAnswered

-- nothing could be read of a file, and nothing was written
abbrev pub IsUnreadable : Option (List ℕ) → Option (List ℕ) → Status → Type 0
IsUnreadable contents held s = (held ≡ contents) × (s ≡ status.Failed)

-- a file was opened, and what it has was answered as a text of this format; or it can't be opened
abbrev pub IsFileAnswered : Format → Option (List ℕ) → Option (List ℕ) → Bool → Status → Type 0
IsFileAnswered format contents held has_refused status = IsUnreadable contents held status
    ⊎ ((remaining : Option (List ℕ)) × (left : Option (List ℕ)) × (has_failed : Bool) × (given : ℕ)
    × IsTextAnswered format remaining left contents held has_failed given has_refused status)

-- a journal was replayed, and the status is that of the outcome
abbrev pub IsJournalTold : Option (List ℕ) → Option (List ℕ) → Option (List ℕ) → Bool → Status → Type 0
IsJournalTold initial contents held has_refused status =
    (s : Stream) × (outcome : Result (Unit {0}) ScriptFault) × IsJournal initial s contents held has_refused outcome × (status ≡ status_of outcome)

-- a file was opened, and what it has was replayed as a journal; or it can't be opened
abbrev pub IsJournalAnswered : Option (List ℕ) → Option (List ℕ) → Bool → Status → Type 0
IsJournalAnswered contents held has_refused status = IsUnreadable contents held status
    ⊎ ((initial : Option (List ℕ)) × IsJournalTold initial contents held has_refused status)

-- the input itself is to be answered, and no file
abbrev pub IsUnnamed : Input → Type 0
IsUnnamed (input.Script path) = path ≡ None
IsUnnamed (input.History path) = path ≡ None
IsUnnamed (input.Journal path) = ⊥

-- what was asked for was answered: the input, or a file, and then the input is left alone
abbrev pub IsInputAnswered : Input → Option (List ℕ) → Option (List ℕ) → Option (List ℕ) → Option (List ℕ) → Bool → ℕ → Bool → Status → Type 0
IsInputAnswered (input.Script None) remaining left contents held has_failed given has_refused status =
    IsScriptAnswered remaining left contents held has_failed given has_refused status
IsInputAnswered (input.Script (Some path)) remaining left contents held has_failed given has_refused status =
    (left ≡ remaining) × IsFileAnswered format.Script contents held has_refused status
IsInputAnswered (input.History None) remaining left contents held has_failed given has_refused status =
    IsReplayAnswered remaining left contents held has_failed given has_refused status
IsInputAnswered (input.History (Some path)) remaining left contents held has_failed given has_refused status =
    (left ≡ remaining) × IsFileAnswered format.History contents held has_refused status
IsInputAnswered (input.Journal path) remaining left contents held has_failed given has_refused status =
    (left ≡ remaining) × IsJournalAnswered contents held has_refused status
