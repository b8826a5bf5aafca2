-- Replies that wait to be written.
use Rattle.std.specs.Prelude.{◌≡◌, ◌⊎◌, ℕ, ◌+◌, ◌<◌, ◌≤◌, List, [], length, get_or, take, Option, Result, Ok, Err}
use Rattle.std.specs.Io.KnownBytes.{Appends, Keeps}
use Rattle.sup_format.specs.declared.fault.Fault.TheVariants as fault
use Rattle.sup_format.specs.declared.fault.ScriptFault.{ScriptFault}

-- that many of the replies that end there are wholly among the first bytes
pub record IsCutAt (ends : List ℕ) (taken whole : ℕ) : Type 0 where
  pub inside : whole ≤ length ends
  pub before : (k : ℕ) → k < whole → get_or ends k 0 ≤ taken
  pub after : whole < length ends → taken < get_or ends whole 0

-- a front of the bytes was written, and the line is the one whose reply is cut
pub record IsTorn (bytes ends : List ℕ) (old new : Option (List ℕ)) (next : ℕ) (e : ScriptFault) : Type 0 where
  pub taken : ℕ
  pub whole : ℕ
  pub short : taken < length bytes
  pub wrote : Appends old new (take taken bytes)
  pub cut : IsCutAt ends taken whole
  pub fault_is : e.fault ≡ fault.WriteFault
  pub line_is : e.line + length ends ≡ next + whole

-- all of the bytes were written and nothing waits, or a front of them was
abbrev pub IsFlushed : List ℕ → List ℕ → List ℕ → List ℕ → Option (List ℕ) → Option (List ℕ) → ℕ → Result (Unit {0}) ScriptFault → Type 0
IsFlushed bytes ends bytes' ends' old new next (Ok u) = (bytes' ≡ []) × (ends' ≡ []) × Appends old new bytes
IsFlushed bytes ends bytes' ends' old new next (Err e) = IsTorn bytes ends old new next e

-- the same, or nothing was done
abbrev pub IsFlushedOrKept : List ℕ → List ℕ → List ℕ → List ℕ → Option (List ℕ) → Option (List ℕ) → ℕ → Result (Unit {0}) ScriptFault → Type 0
IsFlushedOrKept bytes ends bytes' ends' old new next (Ok u) = ((bytes' ≡ bytes) × (ends' ≡ ends) × Keeps old new) ⊎ ((bytes' ≡ []) × (ends' ≡ []) × Appends old new bytes)
IsFlushedOrKept bytes ends bytes' ends' old new next (Err e) = IsTorn bytes ends old new next e
