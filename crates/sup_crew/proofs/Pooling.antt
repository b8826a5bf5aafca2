-- A pool's report is that of its run.
use Rattle.std.proofs.Common.{◌≡◌, ℕ, ◌+◌, ◌≤◌, Bool, true, false, cond, arith, List, [], length, drop, Option, Some, None, refl, ap, sym, ◌∙◌, ◌++◌, append-nil, subst, Result, IfOk}
use Rattle.std.specs.Prelude.{IfNone, count_by}
use Rattle.sup_desk.specs.declared.faults.UpdateFault.{UpdateFault}
use Rattle.sup_crew.specs.declared.fault.PoolFault.{PoolFault}
use Rattle.sup_types.specs.declared.text.Text.{Text}
use Rattle.sup_types.specs.declared.reason.Reason.{Reason}
use Rattle.sup_types.specs.declared.template.Template.{Template}
use Rattle.sup_types.specs.declared.history.Entry.{Entry}
use Rattle.sup_log.specs.Tokens.{Told}
use Rattle.sup_desk.specs.Knowledge.{Knowledge}
use Rattle.sup_desk.specs.declared.name.Name.{Ghosts}
use Rattle.sup_crew.specs.declared.plan.Report.{Report}
use Rattle.sup_crew.specs.declared.driver.Tally.{Tally}
use Rattle.sup_crew.specs.Calls.{Call, calls_of, starts_in, child_made, children_made, AreDriven}
use Rattle.sup_crew.specs.Drivers.{front_of, calls_since, run_of}
use Rattle.sup_crew.specs.Reports.{IsRun, AreNamed, child_ended, children_ended, items_of_run, calls_of_run}
use Rattle.sup_crew.specs.Tallies.{tally_of}
use Rattle.logbook.specs.Pages.{Book}
use Rattle.sup_core.specs.Account.{Item}
use Rattle.sup_core.specs.Changes.{makes_child}
use Rattle.std.proofs.lemmas.List.Recursion.{is_count_by}
use Rattle.sup_types.specs.declared.history.Operation.{Operation}
use Rattle.sup_types.specs.declared.history.Operation.TheVariants.{Start, Exit, Terminate, Retry, Stop}
use Rattle.sup_types.specs.declared.history.Reply.{Reply}
use Rattle.sup_types.specs.declared.history.Reply.TheVariants.{Started, Undefined, StartFailed, Full, Removed, ShutDown, Restarted, Restarting, Ignored, Stray, NotFound, Ended, Stopped, GaveUp, Down}
use Rattle.sup_crew.specs.Jobs.{weigh}
use Rattle.sup_crew.specs.JobLaws.{weigh-append}
use Rattle.sup_crew.specs.Tallies.{is_exit}
use Rattle.sup_crew.specs.declared.pool.PoolReport.{PoolReport}
use Rattle.sup_crew.specs.Pools.{IsPooled}

-- a handle that made no call before has no others
own_calls : (template : Template) (before : Knowledge) (ticket : Option Told) → before.calls ≡ [] → calls_since template before ticket ≡ calls_of template (front_of ticket) before.number
own_calls template before None none = refl
own_calls template before (Some told) none = ap (λ (l : List Entry). drop (length l) (calls_of template told.front before.number)) none

-- without a fault all of the plan was started
all_started : {N : Type 0} {G : Ghosts N} (r : Report N G) → IfNone r.fault (r.unstarted.items ≡ []) → r.fault ≡ None → (started plan : List Text) → started ++ r.unstarted.items ≡ plan → started ≡ plan
all_started r all sound started plan whole =
    let none : r.unstarted.items ≡ [] = subst (λ (f : Option UpdateFault). IfNone f (r.unstarted.items ≡ [])) sound all in
    sym (append-nil started) ∙ ap (λ (l : List Text). started ++ l) (sym none) ∙ whole

-- a child that a call made is counted once
made_once : (items : List Item) (r : Reply) → weigh (λ _. 1) (child_made items r) ≡ cond (makes_child r) 1 0
made_once items (Started number) = refl
made_once items (Restarted old number) = refl
made_once items Undefined = refl
made_once items (StartFailed code) = refl
made_once items Full = refl
made_once items (Removed number) = refl
made_once items (ShutDown number) = refl
made_once items (Restarting number code) = refl
made_once items (Ignored number) = refl
made_once items (Stray number) = refl
made_once items NotFound = refl
made_once items Ended = refl
made_once items Stopped = refl
made_once items GaveUp = refl
made_once items Down = refl

-- and so is a child whose exit a call entered
ended_once : (items : List Item) (o : Operation) → weigh (λ _. 1) (child_ended items o) ≡ cond (is_exit o) 1 0
ended_once items (Exit number reason) = refl
ended_once items (Start arg) = refl
ended_once items (Terminate number) = refl
ended_once items (Retry number) = refl
ended_once items Stop = refl

one_more : (b : Bool) (n m : ℕ) → n ≡ cond b 1 0 → n + m ≡ cond b (1 + m) m
one_more true n m e = omega (arith, e)
one_more false n m e = omega (arith, e)

made_are : (items : List Item) (cs : List Call) → weigh (λ _. 1) (children_made items cs) ≡ count_by (λ c. makes_child c.reply) cs
made_are items = is_count_by (λ cs. weigh (λ _. 1) (children_made items cs)) (λ c. makes_child c.reply) refl
    (λ c cs. weigh-append (λ _. 1) (child_made items c.reply) (children_made items cs) ∙ one_more (makes_child c.reply) _ _ (made_once items c.reply))

ended_are : (items : List Item) (cs : List Call) → weigh (λ _. 1) (children_ended items cs) ≡ count_by (λ c. is_exit c.operation) cs
ended_are items = is_count_by (λ cs. weigh (λ _. 1) (children_ended items cs)) (λ c. is_exit c.operation) refl
    (λ c cs. weigh-append (λ _. 1) (child_ended items c.operation) (children_ended items cs) ∙ one_more (is_exit c.operation) _ _ (ended_once items c.operation))

-- no more children ended than were made
pub few_ended : {N : Type 0} {G : Ghosts N} (may_end : ℕ → Text → Reason → Type 0) (template : Template) (press : Book) (moment : ℕ) (plan : List Text) (before after : Knowledge) (r : Report N G)
    → IsRun may_end (run_of template press moment before) plan after r → r.tally.exits ≤ r.tally.made
few_ended may_end template press moment plan before after r ran =
    let items = items_of_run template r in
    let calls = calls_of_run template before r in
    let all = ran.agree (λ _. 1) in
    let a = made_are items calls in
    let b = ended_are items calls in
    let made = ap (λ (t : Tally). t.made) ran.counts in
    let ended = ap (λ (t : Tally). t.exits) ran.counts in
    omega (arith, all, a, b, made, ended)

pub pooled : {N : Type 0} {G : Ghosts N} (may_end : ℕ → Text → Reason → Type 0) (template : Template) (press : Book) (moment : ℕ) (plan : List Text) (before after : Knowledge) (r : Report N G) (p : PoolReport)
    → IsRun may_end (run_of template press moment before) plan after r → before.calls ≡ [] → r.fault ≡ None → p.made ≡ p.exits + p.left → p.made ≡ r.tally.made → p.exits ≡ r.tally.exits → p.restarts ≡ r.tally.restarts → p.given_up ≡ r.tally.given_up → IsPooled may_end template plan p
pooled may_end template press moment plan before after r p ran new sound whole a b c d =
    let own : calls_since template before r.ticket ≡ calls_of template (front_of r.ticket) before.number = own_calls template before r.ticket new in
    record {
      history = front_of r.ticket;
      driver = before.number;
      driven = subst (λ (l : List Call). AreDriven l) own ran.driven;
      starts = subst (λ (l : List Call). starts_in l ≡ plan) own (all_started r ran.all sound _ plan ran.starts);
      named = subst (λ (l : List Call). AreNamed may_end (items_of_run template r) l) own ran.named;
      made = a ∙ ap (λ (t : Tally). t.made) ran.counts ∙ ap (λ (l : List Call). (tally_of l).made) own;
      whole = whole;
      exits = b ∙ ap (λ (t : Tally). t.exits) ran.counts ∙ ap (λ (l : List Call). (tally_of l).exits) own;
      restarts = c ∙ ap (λ (t : Tally). t.restarts) ran.counts ∙ ap (λ (l : List Call). (tally_of l).restarts) own;
      given_up = d ∙ ap (λ (t : Tally). t.given_up) ran.counts ∙ ap (λ (l : List Call). (tally_of l).given_up) own;
    }

pub of_pool : (result : Result PoolReport PoolFault) (may_end : ℕ → Text → Reason → Type 0) (template given : Template) (texts arguments : List Text) → template ≡ given → texts ≡ arguments
    → IfOk result (λ r. IsPooled may_end template texts r) → IfOk result (λ r. IsPooled may_end given arguments r)
of_pool result may_end template given texts arguments is_given are_arguments told =
    subst (λ (l : List Text). IfOk result (λ r. IsPooled may_end given l r)) are_arguments (subst (λ (t : Template). IfOk result (λ r. IsPooled may_end t texts r)) is_given told)
