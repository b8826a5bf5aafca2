-- Whole scripts, and the text of the replies to their lines.
use Rattle.std.specs.Prelude.{◌≡◌, ℕ, List, [], ◌∷◌, ◌++◌, length}
use Rattle.sup_types.specs.declared.text.Text.{Text}
use Rattle.sup_types.specs.declared.template.Template.{Template}
use Rattle.sup_types.specs.declared.view.Refusal.TheVariants.{SimpleOneForOne}
use Rattle.sup_types.specs.declared.history.Answer.{Answer}
use Rattle.sup_types.specs.declared.history.Operation.{Operation}
use Rattle.sup_types.specs.declared.history.Entry.{Entry}
use Rattle.sup_core.specs.Account.{entry_of, reply_after}
use Rattle.sup_core.specs.Queries.{which, count}
use Rattle.sup_format.specs.declared.read.command.Command.{Command}
use Rattle.sup_format.specs.declared.read.command.Command.TheVariants as command
use Rattle.sup_format.specs.declared.fault.Fault.{Fault}
use Rattle.sup_format.specs.declared.fault.Fault.TheVariants as fault
use Rattle.sup_format.specs.Reading.Words.{words_of}
use Rattle.sup_format.specs.Reading.Lines.{LineMeans, MeansNothing}
use Rattle.sup_format.specs.Reading.Headers.{AreHeaderWords, IsFirst, IsOutOfRange, IsNoFirst}
use Rattle.sup_script.specs.Running.Stops.{IsAtLine, IsCutShort}
use Rattle.sup_format.specs.Writing.Replies.{reply_text, which_text, count_text, refusal_text}

-- what the start function answers to an argument at a moment
abbrev pub Answering : Type 0
Answering = Text → ℕ → Answer

-- ---- replies

-- the entry of an update: entries have handle 0 and serials 0, 1, 2, ..
abbrev pub next_entry : Answering → Template → List Entry → ℕ → Operation → Entry
next_entry answer template history moment operation = entry_of answer template history 0 (length history) operation moment

-- the history after a command
abbrev pub history_after : Answering → Template → List Entry → Command → List Entry
history_after answer template history (command.Update moment operation) = history ++ next_entry answer template history moment operation ∷ []
history_after answer template history _ = history

-- the text of the reply to a command after a history
abbrev pub text_of : Answering → Template → List Entry → Command → List ℕ
text_of answer template history (command.Update moment operation) = reply_text (reply_after template history (next_entry answer template history moment operation))
text_of answer template history command.Which = which_text (which template history)
text_of answer template history command.Count = count_text (count template history)
text_of answer template history (command.ById text) = refusal_text SimpleOneForOne

-- the text of the replies to commands after a history
abbrev pub replies_text : Answering → Template → List Entry → List Command → List ℕ
replies_text answer template history [] = []
replies_text answer template history (c ∷ cs) =
    text_of answer template history c ++ replies_text answer template (history_after answer template history c) cs

-- ---- lines

-- each line means its command
abbrev pub AreMeant : List (List ℕ) → List Command → Type 0
AreMeant [] [] = Unit {0}
AreMeant [] (c ∷ cs) = ⊥
AreMeant (line ∷ lines) [] = ⊥
AreMeant (line ∷ lines) (c ∷ cs) = LineMeans line c × AreMeant lines cs

-- a line that is bad if these lines are before it
abbrev pub IsBadAfter : List (List ℕ) → List ℕ → Type 0
IsBadAfter [] line = IsNoFirst AreHeaderWords line
IsBadAfter (header ∷ body) line = MeansNothing (words_of line)

-- commands after a header, and the text of their replies
pub record IsAnswered (answer : Answering) (header : List ℕ) (body : List (List ℕ)) (text : List ℕ) : Type 0 where
  pub template : Template
  pub header_is : IsFirst AreHeaderWords header template
  pub commands : List Command
  pub meant : AreMeant body commands
  pub replies : text ≡ replies_text answer template [] commands

-- lines with no fault, and the text of their replies
abbrev pub Answers : Answering → List (List ℕ) → List ℕ → Type 0
Answers answer [] text = text ≡ []
Answers answer (header ∷ body) text = IsAnswered answer header body text

-- the answering of lines stopped in a line with a fault
abbrev pub StopsWith : Answering → List (List ℕ) → List ℕ → ℕ → Fault → Type 0
StopsWith answer lines written number fault.OutOfMemory = IsAtLine (Answers answer) lines number written
StopsWith answer lines written number fault.BadTemplate = (at : IsAtLine (Answers answer) lines number written) × (at.front ≡ []) × IsOutOfRange AreHeaderWords at.line
StopsWith answer lines written number fault.BadLine = (at : IsAtLine (Answers answer) lines number written) × IsBadAfter at.front at.line
StopsWith answer lines written number fault.ReadFault = ⊥
StopsWith answer lines written number fault.WriteFault = IsCutShort (Answers answer) lines number written
StopsWith answer lines written number fault.TooLong = ⊥
