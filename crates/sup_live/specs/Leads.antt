-- What the driver of a crew enters.
use Rattle.std.specs.Prelude.{◌≡◌, ◌≤◌, ℕ, length, All, Bool, true, false, ◌&&◌, List, [], ◌∷◌, ◌++◌}
use Rattle.sup_types.specs.declared.reason.Reason.{Reason}
use Rattle.sup_types.specs.declared.history.Operation.{Operation}
use Rattle.sup_types.specs.declared.history.Operation.TheVariants.{Start, Terminate, Exit}
use Rattle.sup_types.specs.declared.history.Entry.{Entry}
use Rattle.sup_types.specs.declared.history.Reply.{Reply}
use Rattle.sup_types.specs.declared.template.Template.{Template}
use Rattle.sup_desk.specs.Knowledge.{Knowledge}
use mathlib.Core.List.{IsPrefix}
use Rattle.sup_exits.specs.declared.exit.Child.{Child}
use Rattle.sup_exits.specs.declared.exit.Exit.{Exit as Exited}
use Rattle.sup_exits.specs.Endings.{is_ending, AreEndings}
use Rattle.sup_exits.specs.Exits.{children_of, operations_of}
use Rattle.sup_live.specs.Starts.{HasReplies}
use Rattle.sup_live.specs.Restarts.{number_restarted, restarted_among}

-- the operation, if it is an exit
abbrev pub exit_of : Operation → List Operation
exit_of (Exit number reason) = Exit number reason ∷ []
exit_of _ = []

-- the exits among the entries
abbrev pub exits_among : List Entry → List Operation
exits_among [] = []
exits_among (e ∷ es) = exit_of e.operation ++ exits_among es

-- whether a driver enters it: an exit, a later try of a restart, or the stop
abbrev pub is_driven : Operation → Bool
is_driven (Start arg) = false
is_driven (Terminate number) = false
is_driven _ = true

abbrev pub are_driven : List Entry → Bool
are_driven [] = true
are_driven (e ∷ es) = is_driven e.operation && are_driven es

-- an exit, with a reason that a crew may tell
abbrev pub IsExitEnding : (Reason → Bool) → Operation → Type 0
IsExitEnding may_end (Exit number reason) = is_ending may_end reason ≡ true
IsExitEnding may_end _ = ⊥

-- each of these is
abbrev pub AreExitsEnding : (Reason → Bool) → List Operation → Type 0
AreExitsEnding may_end operations = All (IsExitEnding may_end) operations

-- the exit of a child, as this operation enters it
abbrev pub told_as : Child → Operation → List Exited → List Exited
told_as child (Exit number reason) rest = record { child = child; reason = reason } ∷ rest
told_as child _ rest = rest

-- the exits of these children, as these operations enter them
abbrev pub told_by : List Operation → List Child → List Exited
told_by operations [] = []
told_by [] (c ∷ cs) = []
told_by (o ∷ os) (c ∷ cs) = told_as c o (told_by os cs)

-- the exits among these calls are those that were reported, whose children were paid, and then those that are to be paid; and each that
-- was reported has a reason that a crew may report
abbrev pub HasTold : (Reason → Bool) → List Entry → List Child → List Exited → List Exited → Type 0
HasTold may_end calls paid unpaid told = (exits_among calls ≡ operations_of (told ++ unpaid)) × (paid ≡ children_of told) × AreEndings may_end told

abbrev pub IsLed : (Reason → Bool) → List Entry → List Child → List Exited → Type 0
IsLed may_end calls paid unpaid = HasTold may_end calls paid unpaid (told_by (exits_among calls) paid)

-- These exits were entered: the calls that were made are they, and so are the restarts by the replies
pub record HasEntered (template : Template) (before after : Knowledge) (exits : List Exited) (replies : List Reply) : Type 0 where
  pub front : IsPrefix before.front after.front
  pub added : List Entry
  pub calls_are : after.calls ≡ before.calls ++ added
  pub exits_are : exits_among added ≡ operations_of exits
  pub driven : are_driven added ≡ true
  pub restarted : (since : ℕ) (numbers : List ℕ) → since ≤ length before.calls → HasReplies number_restarted template since before numbers → HasReplies number_restarted template since after (numbers ++ restarted_among replies)
