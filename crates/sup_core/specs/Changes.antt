-- What a supervisor goes on with after an entry.
use Rattle.std.specs.Prelude.{ℕ, ◌+◌, ◌==◌, List, [], ◌∷◌, ◌++◌, Bool, true, false, ◌||◌, map, if◌then◌else◌}
use Rattle.sup_types.specs.declared.text.Text.{Text}
use Rattle.sup_types.specs.declared.view.Row.{Row}
use Rattle.sup_types.specs.declared.view.Status.TheVariants as status
use Rattle.sup_types.specs.declared.history.Operation.{Operation}
use Rattle.sup_types.specs.declared.history.Operation.TheVariants.{Start, Terminate}
use Rattle.sup_types.specs.declared.history.Entry.{Entry}
use Rattle.sup_types.specs.declared.history.Reply.{Reply}
use Rattle.sup_types.specs.declared.history.Reply.TheVariants.{Started, Removed, ShutDown, Restarted, Restarting, Ignored, Ended, Stopped, GaveUp}
use Rattle.sup_window.specs.Attempts.{remembered}
use Rattle.sup_core.specs.Rows.{argument_at, without, waiting_at}
use Rattle.sup_core.specs.State.{State, arrived}
use Rattle.sup_core.specs.Replies.{reply_to}

-- whether a reply says that a child was made, that a restart was attempted, that the supervisor goes down
abbrev pub makes_child : Reply → Bool
makes_child (Started number) = true
makes_child (Restarted number next) = true
makes_child _ = false

abbrev pub is_attempt : Reply → Bool
is_attempt (Restarted number next) = true
is_attempt (Restarting number code) = true
is_attempt (Ignored number) = true
is_attempt GaveUp = true
is_attempt _ = false

abbrev pub goes_down : Reply → Bool
goes_down Stopped = true
goes_down GaveUp = true
goes_down (ShutDown number) = true
goes_down _ = false

-- the argument of a start
abbrev pub start_argument : Operation → Text
start_argument (Start arg) = arg
start_argument _ = []

-- the number of the child that is to be ended
abbrev pub is_end_of : ℕ → Operation → Bool
is_end_of number (Terminate other) = number == other
is_end_of number _ = false

-- the rows without those that a termination ends
abbrev pub rows_ended : List Row → Operation → List Row
rows_ended rows (Terminate number) = without number rows
rows_ended rows _ = rows

-- a child that runs
abbrev pub running : ℕ → Text → Row
running number arg = record { number = number; status = status.Running; arg = arg }

-- the rows after an operation that had this reply
abbrev pub rows_after : List Row → Operation → Reply → List Row
rows_after rows operation (Started number) = rows ++ running number (start_argument operation) ∷ []
rows_after rows operation (Removed number) = without number rows
rows_after rows operation (ShutDown number) = []
rows_after rows operation (Restarted number next) = without number rows ++ running next (argument_at number rows) ∷ []
rows_after rows operation (Restarting number code) = map (waiting_at number) rows
rows_after rows operation (Ignored number) = without number rows
rows_after rows operation Ended = rows_ended rows operation
rows_after rows operation Stopped = []
rows_after rows operation GaveUp = []
rows_after rows operation _ = rows

-- the state after an operation that has arrived and had this reply. Of the attempts it has those that its window remembers
abbrev pub changed : State → Operation → Reply → State
changed s operation reply =
    record {
      template = s.template;
      rows = rows_after s.rows operation reply;
      made = if makes_child reply then s.made + 1 else s.made;
      latest = s.latest;
      attempts = if is_attempt reply then remembered s.template.intensity (s.attempts ++ s.latest ∷ []) else s.attempts;
      down = s.down || goes_down reply;
      steps = s.steps;
    }

-- the state that a supervisor goes on with after an entry
abbrev pub next_state : State → Entry → State
next_state s entry = changed (arrived s entry.moment) entry.operation (reply_to s entry)
