-- What is shown of words that are no order.
use Rattle.std.specs.Prelude.{◌≡◌, ◌⊎◌, ℕ, Bool, true, List, Option}
use Rattle.std.specs.Io.KnownBytes.{Appends}
use Rattle.clap.specs.declared.error.kind.ErrorKind.{ErrorKind}
use Rattle.clap.specs.declared.error.kind.ErrorKind.TheVariants.{DisplayHelp, DisplayVersion, OutOfMemory}
use Rattle.sup_script.specs.declared.runs.answer.Status.{Status}
use Rattle.sup_script.specs.declared.runs.answer.Status.TheVariants as status

-- a help text is written, or nothing where the words are refused or memory is wanting
abbrev pub IsShown : Option (List ℕ) → Option (List ℕ) → Bool → Status → Type 0
IsShown contents held has_refused status.Done = (text : List ℕ) × Appends contents held text
IsShown contents held has_refused status.BadInput = held ≡ contents
IsShown contents held has_refused status.Failed = has_refused ≡ true
IsShown contents held has_refused status.OtherFault = held ≡ contents
IsShown contents held has_refused status.GaveUp = ⊥

-- by the kind of their error: a help text or the version is written where it is asked for, and nothing where memory is wanting or the
-- words are refused
pub record IsShownAs (kind : ErrorKind) (contents held : Option (List ℕ)) (has_refused : Bool) (s : Status) : Type 0 where
  pub help : (kind ≡ DisplayHelp) ⊎ (kind ≡ DisplayVersion) → IsShown contents held has_refused s × (s ≡ status.BadInput → ⊥)
  pub memory : kind ≡ OutOfMemory → (held ≡ contents) × (s ≡ status.OtherFault)
  pub mistake : (kind ≡ DisplayHelp → ⊥) → (kind ≡ DisplayVersion → ⊥) → (kind ≡ OutOfMemory → ⊥) → (held ≡ contents) × (s ≡ status.BadInput)
