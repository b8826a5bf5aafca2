-- What the results of calls say.
use Rattle.std.specs.Prelude.{◌≡◌, ℕ, ◌<◌, ◌≤◌, length, Result, IfOk, IfErr, OnErr, MatchResult}
use mathlib.Core.List.{IsPrefix}
use Rattle.logbook.specs.Pages.{Book}
use Rattle.sup_types.specs.declared.text.Text.{Text}
use Rattle.sup_types.specs.declared.template.Template.{Template}
use Rattle.sup_types.specs.declared.history.Answer.{Answer}
use Rattle.sup_types.specs.declared.history.Operation.{Operation}
use Rattle.sup_desk.specs.declared.laws.Done.{Done}
use Rattle.sup_desk.specs.declared.faults.UpdateFault.{UpdateFault}
use Rattle.sup_desk.specs.declared.faults.UpdateFault.TheVariants.{HistoryFull, OutOfMemory, Gone}
use Rattle.sup_desk.specs.Knowledge.{Knowledge, entries_of, IsUpdated}

-- what the handle had seen begins what it has seen, publication by publication
pub record HasSeenMore (before after : Knowledge) : Type 0 where
  pub editions : IsPrefix before.editions after.editions
  pub front : IsPrefix before.front after.front

-- what an update's result says: a reply and a ticket where it was entered, and otherwise a fault that has its cause, with
-- the handle's calls as they were. Whatever comes, they are all that stands under its number: no other handle has it. The
-- history was full where the fault says so, and where the update was entered or lacked memory it was not
pub record IsUpdateResult (may : Text → ℕ → Answer → Type 0) (template : Template) (press : Book) (before : Knowledge) (operation : Operation) (moment : ℕ) (after : Knowledge) (result : Result Done UpdateFault) : Type 0 where
  pub ok : IfOk result (λ done. IsUpdated may template press before operation moment after done.reply done.ticket)
  pub seen : HasSeenMore before after
  pub calls : OnErr result ((after.calls ≡ before.calls) × (after.number ≡ before.number))
  pub gone : IfErr result (λ fault. fault ≡ Gone → ⊥)
  pub own : entries_of after.front after.number ≡ after.calls
  pub full : IfErr result (λ fault. fault ≡ HistoryFull → length after.front ≡ template.entries)
  pub room : MatchResult result (λ _. length after.front ≤ template.entries) (λ fault. fault ≡ OutOfMemory → length after.front < template.entries)
