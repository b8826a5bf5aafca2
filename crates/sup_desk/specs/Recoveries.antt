-- Why a history of before can't be entered again.
use Rattle.std.specs.Prelude.{ℕ, ◌≤◌, ◌<◌, List, length, ⊤}
use Rattle.std.specs.List.{All}
use Rattle.sup_types.specs.declared.template.Template.{Template}
use Rattle.sup_types.specs.declared.history.Entry.{Entry}
use Rattle.sup_desk.specs.declared.recovery.RecoverFault.{RecoverFault}
use Rattle.sup_desk.specs.declared.recovery.RecoverFault.TheVariants as recover
use Rattle.sup_desk.specs.Books.{IsMade}

-- what was entered of a history of before, how many handles it has, and how many there may be
pub record Recalled : Type 0 where
  pub history : List Entry
  pub made : ℕ
  pub handles : ℕ

-- the fault has its cause: there are more entries than the template allows, an entry is of no handle that there may be, or there
-- may not be so many handles
abbrev pub IsCauseOf : RecoverFault → Template → ℕ → List Entry → Type 0
IsCauseOf recover.OutOfMemory template handles entries = ⊤
IsCauseOf recover.HistoryFull template handles entries = template.entries < length entries
IsCauseOf recover.NoHandle template handles entries = ¬ All (λ entry. IsMade handles entry.handle) entries
IsCauseOf recover.BadTemplate template handles entries = ¬ ((1 ≤ handles) × (handles ≤ 1024))

-- the fault has its cause in this entry, behind these: they are all that there may be, or it is of no handle that there may be
abbrev pub StopsAt : RecoverFault → Template → ℕ → List Entry → Entry → Type 0
StopsAt recover.OutOfMemory template handles before entry = ⊤
StopsAt recover.HistoryFull template handles before entry = template.entries ≤ length before
StopsAt recover.NoHandle template handles before entry = ¬ IsMade handles entry.handle
StopsAt recover.BadTemplate template handles before entry = ⊥
