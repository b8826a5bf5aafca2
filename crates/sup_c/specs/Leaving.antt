-- Who remains when a supervisor goes down.
use Rattle.std.specs.Prelude.{List, Bool, true, false, ◌&&◌, ◌||◌, not, if◌then◌else◌}
use Rattle.sup_types.specs.declared.template.Template.{Template}
use Rattle.sup_types.specs.declared.history.Operation.{Operation}
use Rattle.sup_types.specs.declared.history.Operation.TheVariants.{Start, Exit, Retry, Terminate, Stop}
use Rattle.sup_types.specs.declared.history.Entry.{Entry}
use Rattle.sup_types.specs.declared.view.Row.{Row}
use Rattle.sup_types.specs.declared.view.Seen.{Seen}
use Rattle.sup_types.specs.Reason.{restarts_after}
use Rattle.sup_core.specs.State.{State, seen_of}
use Rattle.sup_core.specs.Changes.{goes_down}
use Rattle.sup_core.specs.Replies.{reply_to}

-- who remains after an entry: the rows that were listed before it, if it took the supervisor down
abbrev pub left_after : State → Entry → Seen (List Row) → Seen (List Row)
left_after s entry left = if goes_down (reply_to s entry) then seen_of s s.rows else left

-- whether an operation may take a supervisor of this template down, if it is asked about a start or not. A few that do not are among them
abbrev pub may_end : Template → Operation → Bool → Bool
may_end template (Start argument) asked = false
may_end template (Exit number reason) asked = not asked && (template.significant || restarts_after template.restart reason)
may_end template (Retry number) asked = not asked
may_end template (Terminate number) asked = false
may_end template Stop asked = true
