-- Starts that are entered together, and what came of each.
use Rattle.std.specs.Prelude.{◌≡◌, ℕ, List, [], ◌∷◌, ⊤, map, length, take, drop, IfSome, IfNone}
use mathlib.Core.List.{IsPrefix}
use Rattle.logbook.specs.Pages.{Book}
use Rattle.sup_types.specs.declared.template.Template.{Template}
use Rattle.sup_types.specs.declared.history.Answer.{Answer}
use Rattle.sup_types.specs.declared.text.Text.{Text}
use Rattle.sup_types.specs.declared.history.Operation.{Operation}
use Rattle.sup_types.specs.declared.history.Operation.TheVariants.{Start}
use Rattle.sup_types.specs.declared.history.Reply.{Reply}
use Rattle.sup_desk.specs.Knowledge.{Knowledge}
use Rattle.sup_desk.specs.Batches.{IsApplied}
use Rattle.sup_desk.specs.declared.faults.UpdateFault.TheVariants.{Journal}
use Rattle.sup_desk.specs.declared.journal.JournalFault.{JournalFault}
use Rattle.sup_live.specs.declared.started.Begun.{Begun}
use Rattle.sup_live.specs.declared.started.StartedAll.{StartedAll}
use Rattle.sup_live.specs.Starts.{given_back, started_as}

abbrev pub start_of : {O : Type 0} → Text × O → Operation
start_of (arg, _) = Start arg

-- the starts of these children, each with its argument and what it is to own
abbrev pub starts_of : {O : Type 0} → List (Text × O) → List Operation
starts_of children = map start_of children

-- what came of these starts
abbrev pub replies_of : {M O : Type 0} → List (Begun M O) → List Reply
replies_of [] = []
replies_of (b ∷ bs) = b.reply ∷ replies_of bs

-- each has the address of its child, if it has one, and gives back what the child was to own, if none was made
abbrev pub AreGiven : {M O : Type 0} → List (Text × O) → List (Begun M O) → Type 0
AreGiven _ [] = ⊤
AreGiven [] (b ∷ bs) = ⊥
AreGiven (c ∷ cs) (b ∷ bs) = IfSome b.child (λ address. started_as b.reply ≡ address.number ∷ []) × (b.own ≡ given_back c.1 b.reply) × AreGiven cs bs

-- What came of a batch of starts. The first of them were entered, at the end of one front that begins with what the handle knew, and the
-- ticket is for the history up to and with the last. The others are still in the list, and there are none if there is no fault. Without a
-- ticket nothing was entered, nor if the journal broke off, which failed as it may
pub record IsStartedAll {M O : Type 0} (may_answer : Text → ℕ → Answer → Type 0) (may_fail : JournalFault → Type 0) (template : Template) (press : Book) (before : Knowledge) (list : List (Text × O)) (after : Knowledge) (rest : List (Text × O)) (result : StartedAll M O) : Type 0 where
  pub entered : IfSome result.ticket (λ t. (moment : ℕ) × IsApplied may_answer template press before (take (length result.started.items) (starts_of list)) moment (record { number = after.number; editions = t.editions; front = t.front; calls = after.calls }) (replies_of result.started.items) t)
  pub seen : IfSome result.ticket (λ t. IsPrefix t.front after.front)
  pub nothing : IfNone result.ticket ((result.started.items ≡ []) × (after.calls ≡ before.calls) × (after.number ≡ before.number))
  pub given : AreGiven list result.started.items
  pub rest_is : rest ≡ drop (length result.started.items) list
  pub all : IfNone result.fault (rest ≡ [])
  pub front : IsPrefix before.front after.front
  pub journal : IfSome result.fault (λ fault. (f : JournalFault) → fault ≡ Journal f → (result.started.items ≡ []) × may_fail f)
