-- What a supervisor replies to an entry, and which argument it asks the start function about.
use Rattle.std.specs.Prelude.{ℕ, ◌+◌, ◌==◌, List, Bool, true, false, ◌&&◌, Option, Some, None, length, if◌then◌else◌}
use Rattle.std.specs.List.{list_any}
use Rattle.sup_types.specs.declared.text.Text.{Text}
use Rattle.sup_types.specs.declared.template.Template.{Template}
use Rattle.sup_types.specs.declared.template.AutoShutdown.{AutoShutdown}
use Rattle.sup_types.specs.declared.template.AutoShutdown.TheVariants.{Never, Any, All}
use Rattle.sup_types.specs.declared.view.Row.{Row}
use Rattle.sup_types.specs.declared.history.Operation.{Operation}
use Rattle.sup_types.specs.declared.history.Operation.TheVariants.{Start, Exit, Retry, Terminate, Stop}
use Rattle.sup_types.specs.declared.history.Answer.{Answer}
use Rattle.sup_types.specs.declared.history.Answer.TheVariants.{Running, Ignore, Failed}
use Rattle.sup_types.specs.declared.history.Entry.{Entry}
use Rattle.sup_types.specs.declared.history.Reply.{Reply}
use Rattle.sup_types.specs.declared.history.Reply.TheVariants.{Started, Undefined, StartFailed, Full, Removed, ShutDown, Restarted, Restarting, Ignored, Stray, NotFound, Ended, Stopped, GaveUp, Down}
use Rattle.sup_types.specs.Reason.{restarts_after}
use Rattle.sup_window.specs.Attempts.{is_allowed}
use Rattle.sup_core.specs.Rows.{has_number, runs_as, waits_as, argument_at, without}
use Rattle.sup_core.specs.State.{State, arrived}

-- whether one more attempt is allowed at the latest moment
abbrev pub allows_restart : State → Bool
allows_restart s = is_allowed s.template.intensity s.template.period s.attempts s.latest

-- whether there are as many children as there may be
abbrev pub is_full : State → Bool
is_full s = length s.rows == s.template.max

-- the reply to a start where so many children were made, by what the start function answered
abbrev pub started : ℕ → Answer → Reply
started made Running = Started (made + 1)
started made Ignore = Undefined
started made (Failed code) = StartFailed code

-- the reply to a restart of this child, likewise
abbrev pub restarted : ℕ → ℕ → Answer → Reply
restarted made number Running = Restarted number (made + 1)
restarted made number Ignore = Ignored number
restarted made number (Failed code) = Restarting number code

-- the reply to an attempt to restart this child
abbrev pub attempted : State → ℕ → Answer → Reply
attempted s number answer = if allows_restart s then restarted s.made number answer else GaveUp

-- whether the end of a significant child that left these rows takes the supervisor down
abbrev pub takes_down : AutoShutdown → List Row → Bool
takes_down Never left = false
takes_down Any left = true
takes_down All left = length left == 0

-- whether the end of a child that is not started again and left these rows takes the supervisor down
abbrev pub shuts_down : Template → List Row → Bool
shuts_down template left = template.significant && takes_down template.auto_shutdown left

-- the reply to the end of this child, which is not started again
abbrev pub removed : State → ℕ → Reply
removed s number = if shuts_down s.template (without number s.rows) then ShutDown number else Removed number

-- the reply to an operation that has arrived, while the supervisor is up
abbrev pub reply_up : State → Operation → Answer → Reply
reply_up s (Start arg) answer = if is_full s then Full else started s.made answer
reply_up s (Exit number reason) answer =
    if list_any (runs_as number) s.rows
    then (if restarts_after s.template.restart reason then attempted s number answer else removed s number)
    else Stray number
reply_up s (Retry number) answer = if list_any (waits_as number) s.rows then attempted s number answer else NotFound
reply_up s (Terminate number) answer = if list_any (has_number number) s.rows then Ended else NotFound
reply_up s Stop answer = Stopped

-- the reply to an entry
abbrev pub reply_to : State → Entry → Reply
reply_to s entry = if s.down then Down else reply_up (arrived s entry.moment) entry.operation entry.answer

-- the argument whose start is asked for in an attempt to restart this child
abbrev pub asked_again : State → ℕ → Option Text
asked_again s number = if allows_restart s then Some (argument_at number s.rows) else None

abbrev pub asked_up : State → Operation → Option Text
asked_up s (Start arg) = if is_full s then None else Some arg
asked_up s (Exit number reason) =
    if list_any (runs_as number) s.rows
    then (if restarts_after s.template.restart reason then asked_again s number else None)
    else None
asked_up s (Retry number) = if list_any (waits_as number) s.rows then asked_again s number else None
asked_up s (Terminate number) = None
asked_up s Stop = None

-- the argument whose start decides the reply to an entry with this operation and moment
abbrev pub asked_argument : State → Operation → ℕ → Option Text
asked_argument s operation moment = if s.down then None else asked_up (arrived s moment) operation
