-- What a driver did so far.
use Rattle.std.specs.Prelude.{◌≡◌, ℕ, ◌+◌, length, drop, List, [], ◌∷◌, ◌++◌, Option, Some, None, IfSome}
use Rattle.std.specs.List.{All}
use mathlib.Core.List.{IsPrefix}
use Rattle.logbook.specs.Pages.{Book}
use Rattle.sup_types.specs.declared.text.Text.{Text}
use Rattle.sup_types.specs.declared.template.Template.{Template}
use Rattle.sup_types.specs.declared.history.Entry.{Entry}
use Rattle.sup_types.specs.declared.history.Reply.{Reply}
use Rattle.sup_types.specs.declared.history.Reply.TheVariants.{Started, Restarted}
use Rattle.sup_log.specs.Tokens.{Told}
use Rattle.sup_desk.specs.Knowledge.{Knowledge, entries_of}
use Rattle.sup_inbox.specs.declared.note.Note.{Note}
use Rattle.sup_crew.specs.declared.job.Child.{Child}
use Rattle.sup_crew.specs.Jobs.{weigh}
use Rattle.std.specs.Global.{Global}
use Rattle.atomic_table.specs.Seated.{TableId}
use Rattle.crossbeam_queue.specs.SegTies.{SegId}
use Rattle.sup_crew.specs.Dispatchers.{DispatcherModel, IsSameQueue}
use Rattle.sup_crew.specs.Drains.{DrainModel}
use Rattle.sup_crew.specs.declared.driver.Tally.{Tally}
use Rattle.sup_crew.specs.Tallies.{tally_of}
use Rattle.sup_desk.specs.declared.faults.UpdateFault.{UpdateFault}
use Rattle.sup_desk.specs.declared.faults.UpdateFault.TheVariants as update
use Rattle.sup_crew.specs.Calls.{Call, calls_of, exits_in, starts_in, jobs_made, AreDriven}
use Rattle.sup_crew.specs.Exits.{exits}

-- the history up to and with the last update
abbrev pub front_of : Option Told → List Entry
front_of None = []
front_of (Some told) = told.front

-- the job for the child that the reply to a start made, and that to the exit that a note tells
abbrev pub started_job : Text → Reply → List Child
started_job arg (Started number) = record { number = number; arg = arg } ∷ []
started_job arg _ = []

abbrev pub started_jobs : List Text → List Reply → List Child
started_jobs args [] = []
started_jobs [] (reply ∷ replies) = []
started_jobs (arg ∷ args) (reply ∷ replies) = started_job arg reply ++ started_jobs args replies

abbrev pub restarted_job : Note → Reply → List Child
restarted_job note (Restarted old number) = record { number = number; arg = note.arg } ∷ []
restarted_job note _ = []

abbrev pub restarted_jobs : List (Note × Reply) → List Child
restarted_jobs [] = []
restarted_jobs (p ∷ ps) = restarted_job p.0 p.1 ++ restarted_jobs ps

-- the entries have this moment
abbrev pub AreAt : ℕ → List Entry → Type 0
AreAt moment entries = All (λ entry. entry.moment ≡ moment) entries

-- the handle made calls more, all at this moment
pub record HasCalled (moment : ℕ) (before after : Knowledge) : Type 0 where
  pub number : after.number ≡ before.number
  pub more : List Entry
  pub calls : after.calls ≡ before.calls ++ more
  pub at : AreAt moment more

-- the handle made no call
abbrev pub HasNotCalled : Knowledge → Knowledge → Type 0
HasNotCalled before after = (after.calls ≡ before.calls) × (after.number ≡ before.number)

-- the ticket has all calls of the handle, and nothing that the handle has not seen; without one it made none
abbrev pub HasAll : Knowledge → Knowledge → Option Told → Type 0
HasAll before after None = after.calls ≡ before.calls
HasAll before after (Some told) = (entries_of told.front after.number ≡ after.calls) × IsPrefix told.front after.front

-- the calls that the handle made after what it knew before, up to and with those of the ticket
abbrev pub calls_since : Template → Knowledge → Option Told → List Call
calls_since template before None = []
calls_since template before (Some told) = drop (length before.calls) (calls_of template told.front before.number)

-- a run: the template and the press of its desk, the moment of its updates, and what its driver's handle knew before it
pub record Run : Type 0 where
  pub template : Template
  pub press : Book
  pub moment : ℕ
  pub before : Knowledge

abbrev pub run_of : Template → Book → ℕ → Knowledge → Run
run_of template press moment before = record { template = template; press = press; moment = moment; before = before }

-- a driver: what its handle knows, its jobs and its drain, the ticket of its last update, and what it counted
pub record DriverModel : Type 0 where
  pub knows : Knowledge
  pub jobs : DispatcherModel
  pub drain : DrainModel
  pub ticket : Option Told
  pub tally : Tally

-- the calls of the run up to and with the driver's last update
abbrev pub calls_of_driver : Run → DriverModel → List Call
calls_of_driver run d = calls_since run.template run.before d.ticket

-- the driver's updates in this run are the starts of these arguments and the exits of the notes that it entered, it counted them, and it
-- queued or kept a job for each child that they made
pub record HasDriven (run : Run) (begun : List Text) (d : DriverModel) : Type 0 where
  pub of_press : IfSome d.ticket (λ told. told.press ≡ run.press)
  pub called : HasCalled run.moment run.before d.knows
  pub whole : HasAll run.before d.knows d.ticket
  pub driven : AreDriven (calls_of_driver run d)
  pub starts : starts_in (calls_of_driver run d) ≡ begun
  pub exits_are : exits_in (calls_of_driver run d) ≡ exits d.drain.entered
  pub counts : d.tally ≡ tally_of (calls_of_driver run d)
  pub jobs : (h : Child → ℕ) → weigh h d.jobs.put + weigh h d.jobs.kept ≡ weigh h (jobs_made (calls_of_driver run d) d.drain.entered)

-- whatever a driver had done in a run at this moment, it started these beside
abbrev pub Starts : Template → Book → ℕ → List Text → DriverModel → DriverModel → Type 0
Starts template press moment args old new =
    (before : Knowledge) (begun : List Text) → HasDriven (run_of template press moment before) begun old → HasDriven (run_of template press moment before) (begun ++ args) new

-- whatever a driver had done in a run at this moment, it started nothing beside
abbrev pub GoesOn : Template → Book → ℕ → DriverModel → DriverModel → Type 0
GoesOn template press moment old new =
    (before : Knowledge) (begun : List Text) → HasDriven (run_of template press moment before) begun old → HasDriven (run_of template press moment before) begun new

-- a driver of this queue and this inbox
abbrev pub IsAtWork : SegId Global → TableId → DriverModel → Type 0
IsAtWork queue inbox d = (d.jobs.queue ≡ queue) × (d.drain.inbox ≡ inbox)

-- of the same queue and inbox, with the same rights
abbrev pub IsSameDriver : DriverModel → DriverModel → Type 0
IsSameDriver old new = IsSameQueue old.jobs new.jobs × (new.drain.inbox ≡ old.drain.inbox) × (new.drain.posters ≡ old.drain.posters)

-- a refusal has its cause: the history is full, or memory ran out
abbrev pub IsCause : Template → Knowledge → UpdateFault → Type 0
IsCause template knows fault = (fault ≡ update.HistoryFull → length knows.front ≡ template.entries) × (fault ≡ update.Gone → ⊥)
