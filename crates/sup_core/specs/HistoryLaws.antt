-- A supervisor after a history: it replies, asks and goes on as the account of that history says.
use Rattle.std.proofs.Common.{◌≡◌, ℕ, ◌+◌, List, [], ◌∷◌, ◌++◌, Bool, true, false, cond, length, max, ◌∙◌, sym, refl, ap, arith, length-append}
use Rattle.std.specs.Prelude.{◌||◌, Some, None, fold, if◌then◌else◌}
use Rattle.std.specs.List.{list_any}
use Rattle.sup_types.specs.declared.template.Template.{Template}
use Rattle.sup_types.specs.declared.view.Row.{Row}
use Rattle.sup_types.specs.declared.history.Operation.{Operation}
use Rattle.sup_types.specs.declared.history.Operation.TheVariants.{Start, Exit, Retry, Terminate, Stop}
use Rattle.sup_types.specs.declared.history.Answer.{Answer}
use Rattle.sup_types.specs.declared.history.Entry.{Entry}
use Rattle.sup_types.specs.declared.history.Reply.TheVariants.{Stray, NotFound, GaveUp, Down}
use Rattle.sup_window.specs.Attempts.{remembered}
use Rattle.sup_window.specs.Laws.{remembered-push, is_allowed-remembered}
use Rattle.sup_types.specs.Reason.{restarts_after}
use Rattle.sup_core.specs.Rows.{runs_as, waits_as, argument_at}
use Rattle.sup_core.specs.State.{State, arrived}
use Rattle.sup_core.specs.Replies.{allows_restart, restarted, removed, reply_up, reply_to, asked_argument, asked_up}
use Rattle.sup_core.specs.Changes.{makes_child, is_attempt, goes_down, rows_after, changed, next_state}
use Rattle.sup_core.specs.Account.{Item, latest_moment, made_count, is_down, listed_rows, attempt_moments, standing, item_of, account, state_after, reply_after, trimmed, IsAfter}
use Rattle.sup_core.specs.AccountLaws.{IsSound, apt_reply, makes_up, sound_account, listed_rows-push, made_count-push, latest_moment-push, attempt_moments-push, is_down-push, account-push}

-- the attempts that a window remembers decide as all do
allows_restart-trimmed : (template : Template) (items : List Item) (moment : ℕ) → IsSound items
    → allows_restart (arrived (trimmed (standing template items)) moment) ≡ allows_restart (arrived (standing template items) moment)
allows_restart-trimmed template items moment sound =
    is_allowed-remembered template.intensity template.period (attempt_moments items) (max (latest_moment items) moment) sound.rising

reply_up-trimmed : (template : Template) (items : List Item) (moment : ℕ) (operation : Operation) (answer : Answer) → IsSound items
    → reply_up (arrived (trimmed (standing template items)) moment) operation answer ≡ reply_up (arrived (standing template items) moment) operation answer
reply_up-trimmed template items moment (Start arg) answer sound = refl
reply_up-trimmed template items moment (Exit number reason) answer sound =
    ap (λ b. if list_any (runs_as number) (listed_rows items)
    then (if restarts_after template.restart reason then (if b then restarted (made_count items) number answer else GaveUp) else removed (standing template items) number)
    else Stray number) (allows_restart-trimmed template items moment sound)
reply_up-trimmed template items moment (Retry number) answer sound =
    ap (λ b. if list_any (waits_as number) (listed_rows items) then (if b then restarted (made_count items) number answer else GaveUp) else NotFound)
    (allows_restart-trimmed template items moment sound)
reply_up-trimmed template items moment (Terminate number) answer sound = refl
reply_up-trimmed template items moment Stop answer sound = refl

pub reply_to-trimmed : (template : Template) (items : List Item) (entry : Entry) → IsSound items
    → reply_to (trimmed (standing template items)) entry ≡ reply_to (standing template items) entry
reply_to-trimmed template items entry sound =
    ap (λ r. if is_down items then Down else r) (reply_up-trimmed template items entry.moment entry.operation entry.answer sound)

trimmed_moments : (n : ℕ) (b : Bool) (ms : List ℕ) (at : ℕ)
    → remembered n (cond b (ms ++ at ∷ []) ms) ≡ cond b (remembered n (remembered n ms ++ at ∷ [])) (remembered n ms)
trimmed_moments n true ms at = sym (remembered-push n ms at)
trimmed_moments n false ms at = refl

-- one more entry: the reference semantics goes on as the state does
pub standing-push : (template : Template) (items : List Item) (entry : Entry) → IsSound items
    → trimmed (standing template (items ++ item_of template items entry ∷ [])) ≡ next_state (trimmed (standing template items)) entry
standing-push template items entry sound =
    let s = standing template items in
    let reply = reply_to s entry in
    let at = max (latest_moment items) entry.moment in
    let item = item_of template items entry in
    let limit = template.intensity in
    let state : List Row → ℕ → ℕ → List ℕ → Bool → ℕ → State =
    λ rows made latest attempts down steps.
    record { template = template; rows = rows; made = made; latest = latest; attempts = attempts; down = down; steps = steps } in
    let rows' = listed_rows (items ++ item ∷ []) in
    let made' = made_count (items ++ item ∷ []) in
    let latest' = latest_moment (items ++ item ∷ []) in
    let moments' = remembered limit (attempt_moments (items ++ item ∷ [])) in
    let down' = is_down (items ++ item ∷ []) in
    let steps' = length (items ++ item ∷ []) in
    let rows'' = rows_after (listed_rows items) entry.operation reply in
    let made'' : ℕ = if makes_child reply then made_count items + 1 else made_count items in
    let moments'' : List ℕ = if is_attempt reply then remembered limit (remembered limit (attempt_moments items) ++ at ∷ []) else remembered limit (attempt_moments items) in
    let down'' : Bool = is_down items || goes_down reply in
    ap (λ rows. state rows made' latest' moments' down' steps') (listed_rows-push items sound entry at reply (apt_reply s entry) (makes_up template items entry))
    ∙ ap (λ made. state rows'' made latest' moments' down' steps') (made_count-push items item)
    ∙ ap (λ latest. state rows'' made'' latest moments' down' steps') (latest_moment-push items item)
    ∙ ap (λ moments. state rows'' made'' at moments down' steps')
    (ap (remembered limit) (attempt_moments-push items item) ∙ trimmed_moments limit (is_attempt reply) (attempt_moments items) at)
    ∙ ap (λ down. state rows'' made'' at moments'' down steps') (is_down-push items item)
    ∙ ap (λ steps. state rows'' made'' at moments'' down'' steps) (length-append items (item ∷ []))
    ∙ ap (λ r. changed (arrived (trimmed s) entry.moment) entry.operation r) (sym (reply_to-trimmed template items entry sound))

-- a supervisor after a history replies as the reference semantics says, and goes on as it does
pub after-step : (s : State) (history : List Entry) (entry : Entry) → IsAfter s history
    → (reply_to s entry ≡ reply_after s.template history entry) × IsAfter (next_state s entry) (history ++ entry ∷ [])
after-step s history entry after =
    let items = account s.template history in
    let sound = sound_account s.template history in (
      ap (λ t. reply_to t entry) after.state ∙ reply_to-trimmed s.template items entry sound,
      record {
        state =
            ap (λ t. next_state t entry) after.state
            ∙ sym (standing-push s.template items entry sound)
            ∙ ap (λ l. trimmed (standing s.template l)) (sym (account-push s.template history entry));
      },
    )

length_along : (template : Template) (items : List Item) (history : List Entry)
    → length (fold (λ items entry. items ++ item_of template items entry ∷ []) items history) ≡ length items + length history
length_along template items [] = omega arith
length_along template items (entry ∷ entries) =
    let item = item_of template items entry in
    let rest = length_along template (items ++ item ∷ []) entries in
    omega (arith, rest, length-append items (item ∷ []))

-- a supervisor after a history had as many steps as that has entries
pub after-steps : (s : State) (history : List Entry) → IsAfter s history → s.steps ≡ length history
after-steps s history after =
    let all = length_along s.template [] history in
    ap (λ (t : State). t.steps) after.state ∙ omega (arith, all)

asked_up-trimmed : (template : Template) (items : List Item) (moment : ℕ) (operation : Operation) → IsSound items
    → asked_up (arrived (trimmed (standing template items)) moment) operation ≡ asked_up (arrived (standing template items) moment) operation
asked_up-trimmed template items moment (Start arg) sound = refl
asked_up-trimmed template items moment (Exit number reason) sound =
    ap (λ b. if list_any (runs_as number) (listed_rows items)
    then (if restarts_after template.restart reason then (if b then Some (argument_at number (listed_rows items)) else None) else None)
    else None) (allows_restart-trimmed template items moment sound)
asked_up-trimmed template items moment (Retry number) sound =
    ap (λ b. if list_any (waits_as number) (listed_rows items) then (if b then Some (argument_at number (listed_rows items)) else None) else None)
    (allows_restart-trimmed template items moment sound)
asked_up-trimmed template items moment (Terminate number) sound = refl
asked_up-trimmed template items moment Stop sound = refl

-- a supervisor after a history asks as the reference semantics says
pub after-asked_argument : (s : State) (history : List Entry) (operation : Operation) (moment : ℕ) → IsAfter s history
    → asked_argument s operation moment ≡ asked_argument (state_after s.template history) operation moment
after-asked_argument s history operation moment after =
    let items = account s.template history in
    ap (λ t. asked_argument t operation moment) after.state
    ∙ ap (λ o. if is_down items then None else o) (asked_up-trimmed s.template items moment operation (sound_account s.template history))
