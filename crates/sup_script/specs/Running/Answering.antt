-- What the answering of lines does, in the middle of a script.
use Rattle.std.specs.Prelude.{◌≡◌, ℕ, ◌+◌, ◌-◌, ◌^◌, List, [], ◌∷◌, ◌++◌, length, Option, None, Some, Result, Ok, Err}
use Rattle.std.specs.Io.KnownBytes.{Appends}
use Rattle.sup_types.specs.declared.template.Template.{Template}
use Rattle.sup_types.specs.declared.history.Entry.{Entry}
use Rattle.sup_core.specs.State.{State}
use Rattle.sup_core.specs.Account.{IsAfter}
use Rattle.sup_format.specs.declared.read.command.Command.{Command}
use Rattle.sup_format.specs.declared.fault.Fault.{Fault}
use Rattle.sup_format.specs.declared.fault.Fault.TheVariants as fault
use Rattle.sup_format.specs.declared.fault.ScriptFault.{ScriptFault}
use Rattle.sup_format.specs.Reading.Headers.{AreHeaderWords, IsFirst, IsOutOfRange}
use Rattle.sup_script.specs.Running.Queues.{IsQueue}
use Rattle.sup_script.specs.Running.Script.{Answering, history_after, replies_text, AreMeant, IsBadAfter, Answers, StopsWith}

-- how many entries a supervisor, or one that is still to be made, can take
abbrev pub steps_left : Option State → ℕ
steps_left None = 2 ^ 62
steps_left (Some s) = s.template.entries - s.steps

-- the history after commands
abbrev pub histories : Answering → Template → List Entry → List Command → List Entry
histories answer template history [] = history
histories answer template history (c ∷ cs) = histories answer template (history_after answer template history c) cs

-- the supervisor has the header's template, and went through the commands, whose replies are this text
pub record HasAnswered (answer : Answering) (header : List ℕ) (body : List (List ℕ)) (text : List ℕ) (s : State) : Type 0 where
  pub header_is : IsFirst AreHeaderWords header s.template
  pub commands : List Command
  pub meant : AreMeant body commands
  pub replies : text ≡ replies_text answer s.template [] commands
  pub after : IsAfter s (histories answer s.template [] commands)

-- the same; there is no supervisor before there is a header
abbrev pub Stands : Answering → List (List ℕ) → List ℕ → Option State → Type 0
Stands answer [] text None = text ≡ []
Stands answer [] text (Some s) = ⊥
Stands answer (header ∷ body) text None = ⊥
Stands answer (header ∷ body) text (Some s) = HasAnswered answer header body text s

-- the lines so far have this text of replies, this supervisor is after them, and the next line has this number
pub record IsAnsweredTo (answer : Answering) (front : List (List ℕ)) (text : List ℕ) (sup : Option State) (next : ℕ) : Type 0 where
  pub stands : Stands answer front text sup
  pub next_is : next ≡ length front + 1

-- one line more
pub record IsAnsweredMore (answer : Answering) (front : List (List ℕ)) (text line : List ℕ) (sup : Option State) (next : ℕ) (old new : List ℕ) : Type 0 where
  pub more : List ℕ
  pub grown : new ≡ old ++ more
  pub so_far : IsAnsweredTo answer (front ++ line ∷ []) (text ++ more) sup (next + 1)

-- the reply of a line was appended, or the line has a fault
abbrev pub LineGives : Answering → List (List ℕ) → List ℕ → List ℕ → Option State → ℕ → List ℕ → List ℕ → Result (Unit {0}) Fault → Type 0
LineGives answer front text line sup next old new (Ok u) = IsAnsweredMore answer front text line sup next old new
LineGives answer front text line sup next old new (Err fault.OutOfMemory) = Unit {0}
LineGives answer front text line sup next old new (Err fault.BadTemplate) = (front ≡ []) × IsOutOfRange AreHeaderWords line
LineGives answer front text line sup next old new (Err fault.BadLine) = IsBadAfter front line
LineGives answer front text line sup next old new (Err fault.ReadFault) = ⊥
LineGives answer front text line sup next old new (Err fault.WriteFault) = ⊥
LineGives answer front text line sup next old new (Err fault.TooLong) = ⊥

-- the same of the replies that are written and those that wait
pub record IsWaiting (answer : Answering) (front : List (List ℕ)) (written waiting ends : List ℕ) (sup : Option State) (next : ℕ) : Type 0 where
  pub so_far : IsAnsweredTo answer front (written ++ waiting) sup next
  pub queue : IsQueue (Answers answer) front written waiting ends

-- the line's reply waits after the others, or the line has a fault and the others wait as before
abbrev pub NextGives : Answering → List (List ℕ) → List ℕ → List ℕ → Option State → ℕ → List ℕ → List ℕ → Result (Unit {0}) Fault → Type 0
NextGives answer front written line sup next bytes ends (Ok u) = IsWaiting answer (front ++ line ∷ []) written bytes ends sup (next + 1)
NextGives answer front written line sup next bytes ends (Err f) = LineGives answer front written line sup next bytes bytes (Err f)

-- lines after others were answered and written, or it stopped in a line
abbrev pub LinesGive : Answering → List (List ℕ) → List ℕ → List (List ℕ) → Option State → ℕ → Option (List ℕ) → Option (List ℕ) → Result (Unit {0}) ScriptFault → Type 0
LinesGive answer front text lines sup next old new (Ok u) = (more : List ℕ) × Appends old new more × IsAnsweredTo answer (front ++ lines) (text ++ more) sup next
LinesGive answer front text lines sup next old new (Err e) = (more : List ℕ) × Appends old new more × StopsWith answer (front ++ lines) (text ++ more) e.line e.fault
