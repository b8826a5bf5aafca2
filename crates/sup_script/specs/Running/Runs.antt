-- What a whole run does: what it reads, what it writes, and how it ends.
use Rattle.std.specs.Prelude.{◌≡◌, ◌≢◌, ◌⊎◌, ℕ, ◌+◌, ◌<◌, ◌≤◌, List, [], ◌++◌, length, Option, Result, Ok, Err}
use Rattle.std.specs.Io.KnownBytes.{Appends, Consumes}
use Rattle.sup_format.specs.declared.fault.Fault.TheVariants as fault
use Rattle.sup_format.specs.declared.fault.ScriptFault.{ScriptFault}
use Rattle.sup_script.specs.Running.Script.{Answering, Answers, StopsWith}
use Rattle.sup_format.specs.Reading.Texts.{lines_of, IsEndedPart, EndsReading}

-- the input ended, and no line has a fault
pub record IsWhole (answer : Answering) (left : Option (List ℕ)) (given past written : List ℕ) : Type 0 where
  pub ended : EndsReading left given past (Ok tt)
  pub some : given ≢ []
  pub answered : Answers answer (lines_of given) written

-- the input ended, and a line has a fault; an empty input lacks its first line
pub record HasFaultyLine (answer : Answering) (left : Option (List ℕ)) (given past written : List ℕ) (e : ScriptFault) : Type 0 where
  pub ended : EndsReading left given past (Ok tt)
  pub stops : StopsWith answer (lines_of given) written e.line e.fault ⊎ ((given ≡ []) × (written ≡ []) × (e.fault ≡ fault.BadLine) × (e.line ≡ 1))

-- a line that is ended has a fault, and the run stopped there, before the input ended
pub record HasStoppedEarly (answer : Answering) (given past written : List ℕ) (e : ScriptFault) : Type 0 where
  pub front : List ℕ
  pub lines : IsEndedPart given front
  pub stops : StopsWith answer (lines_of front) written e.line e.fault
  pub within : 0 < length past → length given ≡ 16777216

-- the reading had this fault: all lines that are ended were answered, and the fault is in the line after them
pub record HasFaultyReading (answer : Answering) (left : Option (List ℕ)) (given past written : List ℕ) (e : ScriptFault) : Type 0 where
  pub ended : EndsReading left given past (Err e.fault)
  pub front : List ℕ
  pub lines : IsEndedPart given front
  pub answered : Answers answer (lines_of front) written
  pub line_is : e.line ≡ length (lines_of front) + 1

abbrev pub Outcome : Answering → Option (List ℕ) → List ℕ → List ℕ → List ℕ → Result (Unit {0}) ScriptFault → Type 0
Outcome answer left given past written (Ok u) = IsWhole answer left given past written
Outcome answer left given past written (Err e) =
    HasFaultyLine answer left given past written e ⊎ (HasStoppedEarly answer given past written e ⊎ HasFaultyReading answer left given past written e)

-- the run took the given bytes from the reader, at most 2^24, and those past them, and appended what was written to the writer
pub record IsRun (answer : Answering) (remaining left contents held : Option (List ℕ)) (result : Result (Unit {0}) ScriptFault) : Type 0 where
  pub given : List ℕ
  pub past : List ℕ
  pub written : List ℕ
  pub short : length given ≤ 16777216
  pub took : Consumes remaining left (given ++ past)
  pub wrote : Appends contents held written
  pub outcome : Outcome answer left given past written result
