-- The sums of a report are counts of updates.
use Rattle.std.proofs.Common.{◌≡◌, List, [], length, drop, Option, Some, None, Result, Ok, Err, refl, ap, ◌∙◌}
use Rattle.std.specs.Prelude.{IfOk}
use Rattle.sup_types.specs.declared.template.Template.{Template}
use Rattle.sup_types.specs.declared.history.Entry.{Entry}
use Rattle.sup_log.specs.Tokens.{Told}
use Rattle.sup_desk.specs.Knowledge.{Knowledge}
use Rattle.sup_desk.specs.declared.name.Name.{Ghosts}
use Rattle.sup_crew.specs.declared.plan.Report.{Report}
use Rattle.sup_crew.specs.Calls.{calls_of}
use Rattle.sup_crew.specs.Drivers.{front_of, calls_since}
use Rattle.sup_crew.specs.Reports.{calls_of_run}
use Rattle.sup_crew.specs.Tallies.{tally_of}
use Rattle.sup_load.specs.declared.fault.StopFault.{StopFault}
use Rattle.sup_load.specs.declared.load.Sums.{Sums}
use Rattle.sup_load.specs.Reports.{AreCounts}

-- a handle that made no call before has no others
own_calls : (template : Template) (before : Knowledge) (ticket : Option Told) → before.calls ≡ [] → calls_since template before ticket ≡ calls_of template (front_of ticket) before.number
own_calls template before None none = refl
own_calls template before (Some told) none = ap (λ (l : List Entry). drop (length l) (calls_of template told.front before.number)) none

pub counted : {N : Type 0} {G : Ghosts N} (template : Template) (before : Knowledge) (r : Report N G) (s : Sums) → before.calls ≡ [] → r.tally ≡ tally_of (calls_of_run template before r)
    → s.tally ≡ r.tally → AreCounts template s
counted template before r s none all same = record {
  history = front_of r.ticket;
  driver = before.number;
  tally = same ∙ (all ∙ ap tally_of (own_calls template before r.ticket none));
}

pub of_template : (template : Template) (r : Result Sums StopFault) → IfOk r (λ s. AreCounts template s) → IfOk r (λ s. (template : Template) × AreCounts template s)
of_template template (Ok s) h = (template, h)
of_template template (Err f) h = tt
