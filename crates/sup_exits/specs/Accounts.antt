-- What a clause sees of a ledger, its accounts and its debts.
use Rattle.std.specs.Prelude.{◌≡◌, ℕ, ◌-◌, ◌^◌, List, [], length, min}
use Rattle.atomic_table.specs.Seated.{TableId}
use Rattle.sup_exits.specs.declared.exit.Child.{Child}
use Rattle.sup_exits.specs.Holdings.{AddUp}

-- a ledger: which one it is
pub record Opened : Type 0 where
  pub id : TableId

-- an account: of which ledger, how many parts of it, the children that were made by it, and those whose exit it paid
pub record Accounted : Type 0 where
  pub ledger : TableId
  pub parts : ℕ
  pub made : List Child
  pub paid : List Child

-- as much of this as a count says
abbrev pub capped : ℕ → ℕ
capped n = min n (2 ^ 64 - 1)

-- an account of this number of parts, by which no child was made and no exit paid
abbrev pub IsNew : TableId → ℕ → Accounted → Type 0
IsNew ledger parts account = account ≡ record { ledger = ledger; parts = parts; made = []; paid = [] }

-- a debt: of which ledger, and the child that owes its exit
pub record Owed : Type 0 where
  pub ledger : TableId
  pub child : Child

-- what an account of all parts tells: how many children were made, and how many of them owe an exit. These children are those whose exit
-- was paid, and the others owe it
pub record IsSettled (account : Accounted) (made owed : ℕ) : Type 0 where
  pub owes : List Child
  pub made_is : made ≡ length account.made
  pub owed_is : owed ≡ length owes
  pub adds_up : AddUp account.made account.paid owes
