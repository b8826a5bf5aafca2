-- An operation that can't take a supervisor down leaves it up; what is listed after a history.
use Rattle.std.proofs.Common.{◌≡◌, ℕ, Bool, List, true, false, refl, ap}
use Rattle.std.specs.Prelude.{Some, None, is_some, not, ◌&&◌, ◌||◌, if◌then◌else◌}
use Rattle.std.specs.List.{list_any}
use Rattle.sup_types.specs.declared.text.Text.{Text}
use Rattle.sup_types.specs.declared.history.Operation.{Operation}
use Rattle.sup_types.specs.declared.history.Operation.TheVariants.{Start, Exit, Retry, Terminate, Stop}
use Rattle.sup_types.specs.declared.history.Answer.{Answer}
use Rattle.sup_types.specs.declared.history.Answer.TheVariants.{Running, Ignore, Failed}
use Rattle.sup_types.specs.declared.history.Entry.{Entry}
use Rattle.sup_types.specs.declared.history.Reply.{Reply}
use Rattle.sup_types.specs.declared.history.Reply.TheVariants.{Full, Stray, GaveUp, ShutDown, Removed, NotFound, Ended, Down}
use Rattle.sup_types.specs.Reason.{restarts_after}
use Rattle.sup_core.specs.Rows.{has_number, runs_as, waits_as, argument_at, without}
use Rattle.sup_core.specs.State.{State, arrived, seen_of}
use Rattle.sup_core.specs.Replies.{reply_to, reply_up, started, restarted, allows_restart, is_full, takes_down, asked_up, asked_argument}
use Rattle.sup_core.specs.Changes.{goes_down}
use Rattle.sup_core.specs.Account.{IsAfter}
use Rattle.sup_core.specs.Queries.{which}
use Rattle.sup_c.specs.Leaving.{may_end}

started_up : (made : ℕ) (answer : Answer) → goes_down (started made answer) ≡ false
started_up made Running = refl
started_up made Ignore = refl
started_up made (Failed code) = refl

restarted_up : (made number : ℕ) (answer : Answer) → goes_down (restarted made number answer) ≡ false
restarted_up made number Running = refl
restarted_up made number Ignore = refl
restarted_up made number (Failed code) = refl

start_up : (full : Bool) (r : Reply) → goes_down r ≡ false → goes_down (if full then Full else r) ≡ false
start_up true r up = refl
start_up false r up = up

exit_up : (listed restarts allowed significant ends : Bool) (r : Reply) (number : ℕ) (arg : Text) → goes_down r ≡ false
    → (not (is_some (if listed then (if restarts then (if allowed then Some arg else None) else None) else None)) && (significant || restarts)) ≡ false
    → goes_down (if listed then (if restarts then (if allowed then r else GaveUp) else (if significant && ends then ShutDown number else Removed number)) else Stray number) ≡ false
exit_up false restarts allowed significant ends r number arg up h = refl
exit_up true true true significant ends r number arg up h = up
exit_up true true false true ends r number arg up h = absurd (cc)
exit_up true true false false ends r number arg up h = absurd (cc)
exit_up true false allowed true ends r number arg up h = absurd (cc)
exit_up true false allowed false ends r number arg up h = refl

retry_up : (listed allowed : Bool) (r : Reply) (arg : Text) → goes_down r ≡ false → not (is_some (if listed then (if allowed then Some arg else None) else None)) ≡ false
    → goes_down (if listed then (if allowed then r else GaveUp) else NotFound) ≡ false
retry_up true true r arg up h = up
retry_up true false r arg up h = absurd (cc)
retry_up false allowed r arg up h = refl

terminate_up : (listed : Bool) → goes_down (if listed then Ended else NotFound) ≡ false
terminate_up true = refl
terminate_up false = refl

reply_stays : (s : State) (operation : Operation) (answer : Answer) → may_end s.template operation (is_some (asked_up s operation)) ≡ false → goes_down (reply_up s operation answer) ≡ false
reply_stays s (Start arg) answer h = start_up (is_full s) (started s.made answer) (started_up s.made answer)
reply_stays s (Exit number reason) answer h =
    exit_up (list_any (runs_as number) s.rows) (restarts_after s.template.restart reason) (allows_restart s) s.template.significant
    (takes_down s.template.auto_shutdown (without number s.rows)) (restarted s.made number answer) number (argument_at number s.rows) (restarted_up s.made number answer) h
reply_stays s (Retry number) answer h =
    retry_up (list_any (waits_as number) s.rows) (allows_restart s) (restarted s.made number answer) (argument_at number s.rows) (restarted_up s.made number answer) h
reply_stays s (Terminate number) answer h = terminate_up (list_any (has_number number) s.rows)
reply_stays s Stop answer h = absurd (cc)

up_or_down : (down : Bool) (s : State) (operation : Operation) (answer : Answer) → may_end s.template operation (is_some (if down then None else asked_up s operation)) ≡ false
    → goes_down (if down then Down else reply_up s operation answer) ≡ false
up_or_down true s operation answer h = refl
up_or_down false s operation answer h = reply_stays s operation answer h

pub stays_up : (s : State) (e : Entry) → may_end s.template e.operation (is_some (asked_argument s e.operation e.moment)) ≡ false → goes_down (reply_to s e) ≡ false
stays_up s e h = up_or_down s.down (arrived s e.moment) e.operation e.answer h

pub listed_is : (s : State) (history : List Entry) → IsAfter s history → seen_of s s.rows ≡ which s.template history
listed_is s history after = ap (λ (t : State). seen_of t t.rows) after.state
