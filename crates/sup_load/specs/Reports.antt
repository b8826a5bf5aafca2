-- What a load says of the run of its crew.
use Rattle.std.specs.Prelude.{◌≡◌, ◌⊎◌, List, ℕ, Bool, true, Option, Result, Ok, Err, IfOk}
use Rattle.std.specs.Io.KnownBytes.{Appends}
use Rattle.sup_types.specs.declared.history.Entry.{Entry}
use Rattle.sup_types.specs.declared.template.Template.{Template}
use Rattle.sup_crew.specs.Calls.{calls_of}
use Rattle.sup_crew.specs.Tallies.{tally_of}
use Rattle.sup_load.specs.declared.fault.LoadFault.{LoadFault}
use Rattle.sup_load.specs.declared.fault.LoadFault.TheVariants.{Stopped, WriteFault}
use Rattle.sup_load.specs.declared.fault.StopFault.{StopFault}
use Rattle.sup_load.specs.declared.load.Sums.{Sums}
use Rattle.sup_load.specs.Lines.{load_lines}
use Rattle.sup_load.specs.Loads.{end_of}

-- the sums are the numbers of the driver's updates in a history of the template, by operation and reply
pub record AreCounts (template : Template) (s : Sums) : Type 0 where
  pub history : List Entry
  pub driver : ℕ
  pub tally : s.tally ≡ tally_of (calls_of template history driver)

-- without sums nothing was written; with them their lines were, or this writer refused
abbrev pub IsTold : Result Sums StopFault → Option (List ℕ) → Option (List ℕ) → Bool → Result (Unit {0}) LoadFault → Type 0
IsTold (Ok s) old new has_refused result =
    ((result ≡ end_of s.fault) × Appends old new (load_lines s)) ⊎ ((result ≡ Err WriteFault) × (has_refused ≡ true))
IsTold (Err fault) old new has_refused result = (result ≡ Err (Stopped fault)) × (new ≡ old)

-- a load: what it measured, if there is a report, are counts of updates, and that was told
pub record IsLoaded (old new : Option (List ℕ)) (has_refused : Bool) (result : Result (Unit {0}) LoadFault) : Type 0 where
  pub measured : Result Sums StopFault
  pub counts : IfOk measured (λ s. (template : Template) × AreCounts template s)
  pub told : IsTold measured old new has_refused result
