-- What a pool's report says.
use Rattle.std.specs.Prelude.{◌≡◌, ℕ, ◌+◌, List, Some, slice_get}
use Rattle.sup_types.specs.Text.{IsText}
use Rattle.sup_types.specs.declared.text.Text.{Text}
use Rattle.sup_types.specs.declared.reason.Reason.{Reason}
use Rattle.sup_types.specs.declared.history.Entry.{Entry}
use Rattle.sup_types.specs.declared.template.Template.{Template}
use Rattle.sup_core.specs.Account.{account}
use Rattle.sup_crew.specs.Calls.{calls_of, starts_in, AreDriven}
use Rattle.sup_crew.specs.Reports.{AreNamed}
use Rattle.sup_crew.specs.Tallies.{tally_of}
use Rattle.sup_crew.specs.declared.pool.PoolReport.{PoolReport}

-- in a history of the template a handle started these arguments, in their order, and entered exits, each for a reason for which the work
-- of its child's argument may end, and nothing else; the report counts these calls by what was replied, and the children that did not end
pub record IsPooled (may_end : ℕ → Text → Reason → Type 0) (template : Template) (arguments : List Text) (r : PoolReport) : Type 0 where
  pub history : List Entry
  pub driver : ℕ
  pub driven : AreDriven (calls_of template history driver)
  pub starts : starts_in (calls_of template history driver) ≡ arguments
  pub named : AreNamed may_end (account template history) (calls_of template history driver)
  pub made : r.made ≡ (tally_of (calls_of template history driver)).made
  pub whole : r.made ≡ r.exits + r.left
  pub exits : r.exits ≡ (tally_of (calls_of template history driver)).exits
  pub restarts : r.restarts ≡ (tally_of (calls_of template history driver)).restarts
  pub given_up : r.given_up ≡ (tally_of (calls_of template history driver)).given_up

-- there is an argument at this place, and it is no text
abbrev pub IsNoText : List (List ℕ) → ℕ → Type 0
IsNoText arguments place = (argument : List ℕ) × (slice_get arguments place ≡ Some argument) × ¬ (IsText argument)
