-- What a run did: the calls of its driver, and what became of each child that they made.
use Rattle.std.specs.Prelude.{◌≡◌, ℕ, ◌+◌, List, [], ◌∷◌, ◌++◌, Some, IfSome, IfNone}
use Rattle.sup_types.specs.declared.text.Text.{Text}
use Rattle.sup_types.specs.declared.reason.Reason.{Reason}
use Rattle.sup_types.specs.declared.template.Template.{Template}
use Rattle.sup_types.specs.declared.history.Operation.{Operation}
use Rattle.sup_types.specs.declared.history.Operation.TheVariants.{Exit}
use Rattle.sup_core.specs.Account.{Item, account, argument_of}
use Rattle.sup_desk.specs.declared.name.Name.{Ghosts}
use Rattle.sup_inbox.specs.declared.note.Note.{Note}
use Rattle.sup_crew.specs.declared.job.Child.{Child}
use Rattle.sup_crew.specs.declared.plan.Report.{Report}
use Rattle.sup_crew.specs.Calls.{Call, children_made, starts_in, AreDriven}
use Rattle.sup_crew.specs.Jobs.{weigh, children_of}
use Rattle.sup_desk.specs.Knowledge.{Knowledge}
use Rattle.sup_crew.specs.Drivers.{front_of, calls_since, HasCalled, HasAll, IsCause, Run, run_of}
use Rattle.logbook.specs.Pages.{Book}
use Rattle.sup_crew.specs.Tallies.{tally_of}
use Rattle.sup_crew.specs.Work.{ended, AreEnds}

-- the children whose exits were entered, with the arguments that the account gives them
abbrev pub child_ended : List Item → Operation → List Child
child_ended items (Exit number reason) = record { number = number; arg = argument_of items number } ∷ []
child_ended items _ = []

abbrev pub children_ended : List Item → List Call → List Child
children_ended items [] = []
children_ended items (c ∷ cs) = child_ended items c.operation ++ children_ended items cs

-- an exit has a reason for which its child may end
abbrev pub IsNamed : (ℕ → Text → Reason → Type 0) → List Item → Operation → Type 0
IsNamed may_end items (Exit number reason) = may_end number (argument_of items number) reason
IsNamed may_end items _ = Unit {0}

abbrev pub AreNamed : (ℕ → Text → Reason → Type 0) → List Item → List Call → Type 0
AreNamed may_end items [] = Unit {0}
AreNamed may_end items (c ∷ cs) = IsNamed may_end items c.operation × AreNamed may_end items cs

-- each of these children has the argument that the account gives it
abbrev pub AreOwn : List Item → List Child → Type 0
AreOwn items [] = Unit {0}
AreOwn items (c ∷ cs) = (c.arg ≡ argument_of items c.number) × AreOwn items cs

module _ {N : Type 0} {G : Ghosts N} where
  abbrev pub items_of_run : Template → Report N G → List Item
  items_of_run template r = account template (front_of r.ticket)

  abbrev pub calls_of_run : Template → Knowledge → Report N G → List Call
  calls_of_run template before r = calls_since template before r.ticket

  -- the notes whose exits were not entered
  abbrev pub notes_of_run : Report N G → List Note
  notes_of_run r = r.held.items ++ r.inbox.items ++ r.unposted.items

  -- what the driver's handle did beyond what it knew before: it started the first of the plan and ended children for the reasons of the
  -- body, all at one moment, and no more; each child that it made ended by one of its exits, or a note tells its end, or its job is left;
  -- the counts are those of its calls by reply; and a fault is that of its last call
  pub record IsRun (may_end : ℕ → Text → Reason → Type 0) (run : Run) (plan : List Text) (after : Knowledge) (r : Report N G) : Type 0 where
    pub of_press : IfSome r.ticket (λ told. told.press ≡ run.press)
    pub driver : r.driver ≡ run.before.number
    pub called : HasCalled run.moment run.before after
    pub whole : HasAll run.before after r.ticket
    pub driven : AreDriven (calls_of_run run.template run.before r)
    pub starts : starts_in (calls_of_run run.template run.before r) ++ r.unstarted.items ≡ plan
    pub all : IfNone r.fault (r.unstarted.items ≡ [])
    pub cause : IfSome r.fault (IsCause run.template after)
    pub named : AreNamed may_end (items_of_run run.template r) (calls_of_run run.template run.before r)
    pub agree : (h : Child → ℕ) → weigh h (children_made (items_of_run run.template r) (calls_of_run run.template run.before r))
        ≡ weigh h (children_ended (items_of_run run.template r) (calls_of_run run.template run.before r)) + weigh h (ended (notes_of_run r)) + weigh h (children_of r.left.items)
    pub own : AreOwn (items_of_run run.template r) (ended (notes_of_run r)) × AreOwn (items_of_run run.template r) (children_of r.left.items)
    pub ends : AreEnds may_end (notes_of_run r)
    pub counts : r.tally ≡ tally_of (calls_of_run run.template run.before r)

  -- the same by a handle that made no call before the run, and is in the report
  pub record IsRunOfItsOwn (may_end : ℕ → Text → Reason → Type 0) (template : Template) (press : Book) (moment : ℕ) (plan : List Text) (r : Report N G) : Type 0 where
    pub before : Knowledge
    pub new : before.calls ≡ []
    pub after : Knowledge
    pub caller : r.caller ≡ Some after
    pub ran : IsRun may_end (run_of template press moment before) plan after r
