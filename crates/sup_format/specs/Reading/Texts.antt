-- What a text is, line by line, and how the reading of one ends.
use Rattle.std.specs.Prelude.{◌≡◌, ℕ, ◌-◌, ◌==◌, ◌<◌, ◌≤◌, List, [], ◌∷◌, ◌++◌, length, slice_index, if◌then◌else◌, Option, Result, Ok, Err}
use Rattle.std.specs.List.{onto_first}
use Rattle.std.specs.Io.KnownBytes.{Consumes, IsAtEnd}
use Rattle.sup_format.specs.declared.fault.Fault.{Fault}
use Rattle.sup_format.specs.declared.fault.Fault.TheVariants as fault
use Rattle.sup_format.specs.Reading.Words.{Lacks}

-- the lines of a text: each ends with a line feed, and the last one may lack it
abbrev pub lines_of : List ℕ → List (List ℕ)
lines_of [] = []
lines_of (b ∷ bs) = if b == 10 then [] ∷ lines_of bs else onto_first b (lines_of bs)

-- the text is empty or ends with a line feed
abbrev pub IsFull : List ℕ → Type 0
IsFull text = 0 < length text → slice_index text (length text - 1) ≡ 10

-- the part of a text up to its last line feed
pub record IsEndedPart (text front : List ℕ) : Type 0 where
  pub rest : List ℕ
  pub parts : text ≡ front ++ rest
  pub unended : Lacks 10 rest
  pub ended : 0 < length front → slice_index front (length front - 1) ≡ 10

-- ---- reading

-- how the reading ended, where `past` are the bytes that came past the given ones
abbrev pub EndsReading : Option (List ℕ) → List ℕ → List ℕ → Result (Unit {0}) Fault → Type 0
EndsReading left given past (Ok u) = (past ≡ []) × IsAtEnd left
EndsReading left given past (Err fault.OutOfMemory) = past ≡ []
EndsReading left given past (Err fault.BadTemplate) = ⊥
EndsReading left given past (Err fault.BadLine) = ⊥
EndsReading left given past (Err fault.ReadFault) = past ≡ []
EndsReading left given past (Err fault.WriteFault) = ⊥
EndsReading left given past (Err fault.TooLong) = (0 < length past) × (length given ≡ 16777216)

-- the text was read so far, at most 2^24 bytes, and those past them
pub record IsRead (remaining left : Option (List ℕ)) (given : List ℕ) (result : Result (Unit {0}) Fault) : Type 0 where
  pub past : List ℕ
  pub short : length given ≤ 16777216
  pub took : Consumes remaining left (given ++ past)
  pub ended : EndsReading left given past result
