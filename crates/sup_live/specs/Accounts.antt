-- Which children a crew made, and what became of the exit of each.
use Rattle.std.specs.Prelude.{◌≡◌, ℕ, ◌+◌, List, [], ◌∷◌, ◌++◌, length, All}
use mathlib.Core.List.{IsPrefix}
use Rattle.sup_types.specs.declared.template.Template.{Template}
use Rattle.sup_types.specs.declared.history.Entry.{Entry}
use Rattle.sup_desk.specs.Knowledge.{entries_of}
use Rattle.sup_exits.specs.declared.exit.Child.{Child}
use Rattle.sup_exits.specs.declared.exit.Exit.{Exit}
use Rattle.sup_exits.specs.Exits.{children_of, operations_of}
use Rattle.sup_exits.specs.Holdings.{weigh, AreAmong}
use Rattle.sup_live.specs.Callers.{Used, calls_since}
use Rattle.sup_live.specs.Starts.{HasReplies, replies_since, child_started}
use Rattle.sup_live.specs.Leads.{exits_among}
use Rattle.sup_live.specs.Restarts.{number_restarted, numbers_of}

-- the children that these clients started in the run, one client's after another's, by the replies in this front
abbrev pub started_by : Template → List Entry → List Used → List Child
started_by template front [] = []
started_by template front (c ∷ cs) = replies_since child_started template c.since front c.knows.number ++ started_by template front cs

-- The children that the clients started in the run are among these: in whatever front begins with that of each of them and has its calls,
-- and no others under its number
abbrev pub AreStartedAmong : Template → List Used → List Child → Type 0
AreStartedAmong template clients made =
    (front : List Entry) → All (λ (c : Used). IsPrefix c.knows.front front × (entries_of front c.knows.number ≡ c.knows.calls)) clients → AreAmong (started_by template front clients) made

-- The account of a crew. As many children were made, and as many of them owe an exit. Each of the others has one exit, which was entered
-- among the driver's calls in the run, or is left; and there is no other exit. Each child that a client started in the run is one of these,
-- and so is each that was restarted by these calls of the driver
pub record IsToldOf (template : Template) (clients : List Used) (driver : Used) (left : List Exit) (made owed : ℕ) : Type 0 where
  pub children : List Child
  pub made_is : made ≡ length children
  pub owes : List Child
  pub owed_is : owed ≡ length owes
  pub entered : List Exit
  pub entered_is : exits_among (calls_since driver) ≡ operations_of entered
  pub adds_up : (h : Child → ℕ) → weigh h children ≡ weigh h (children_of entered) + weigh h (children_of left) + weigh h owes
  pub by_clients : List Child
  pub clients_started : AreStartedAmong template clients by_clients
  pub restarted : List Child
  pub driver_restarted : HasReplies number_restarted template driver.since driver.knows (numbers_of restarted)
  pub among : AreAmong (by_clients ++ restarted) children
