-- What the answering of a piece of the input does.
use Rattle.std.specs.Prelude.{◌≡◌, ℕ, List, ◌++◌, Option, Result, OnOk}
use Rattle.sup_core.specs.State.{State}
use Rattle.sup_format.specs.declared.fault.ScriptFault.{ScriptFault}
use Rattle.sup_script.specs.Running.Script.{Answering}
use Rattle.sup_format.specs.Reading.Texts.{lines_of, IsFull}
use Rattle.sup_script.specs.Running.Answering.{LinesGive}
use Rattle.sup_format.specs.Reading.Words.{Lacks}

-- the lines that the piece ended were answered, and the part of a line after them is kept
pub record IsPieceAnswered (answer : Answering) (front : List (List ℕ)) (text part piece part' : List ℕ) (sup : Option State) (next : ℕ) (old new : Option (List ℕ)) (result : Result (Unit {0}) ScriptFault) : Type 0 where
  pub ended : List ℕ
  pub rest : List ℕ
  pub parts : part ++ piece ≡ ended ++ rest
  pub full : IsFull ended
  pub lacks : Lacks 10 rest
  pub kept : OnOk result (part' ≡ rest)
  pub lines : LinesGive answer front text (lines_of ended) sup next old new result
