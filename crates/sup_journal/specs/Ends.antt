-- What is told of the end of a journal.
use Rattle.std.specs.Prelude.{◌≡◌, ◌<◌, ℕ, List, [], length, Option, None, Some}
use Rattle.std.specs.declared.io.ErrorKind.{ErrorKind}
use Rattle.sup_desk.specs.declared.journal.JournalFault.{JournalFault}
use Rattle.sup_desk.specs.declared.journal.JournalFault.TheVariants as end

-- a write stopped, and not a flush
abbrev pub IsStopped : JournalFault → Type 0
IsStopped (end.Failed kind) = Unit {0}
IsStopped end.TookNothing = Unit {0}
IsStopped (end.NotFlushed kind) = ⊥

-- what is left of a record where a journal ended so: some bytes where a write stopped, and none where a flush failed
abbrev pub IsLeft : Option JournalFault → List ℕ → Type 0
IsLeft None left = ⊥
IsLeft (Some (end.Failed kind)) left = 0 < length left
IsLeft (Some end.TookNothing) left = 0 < length left
IsLeft (Some (end.NotFlushed kind)) left = left ≡ []

-- the error that ended it, if an error did
abbrev pub error_of : Option JournalFault → Option ErrorKind
error_of None = None
error_of (Some (end.Failed kind)) = Some kind
error_of (Some end.TookNothing) = None
error_of (Some (end.NotFlushed kind)) = Some kind
