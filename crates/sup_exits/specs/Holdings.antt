-- What the seats of a ledger hold, and the rule over all of them.
use Rattle.std.specs.Prelude.{◌≡◌, ℕ, ◌+◌, ◌-◌, ◌^◌, ◌≤◌, List, [], ◌∷◌}
use mathlib.Core.Option.{some}
use lib.ListN.{get_elem?}
use Rattle.atomic_table.specs.Table.{Me, Step}
use Rattle.sup_exits.specs.declared.exit.Child.{Child}
use Rattle.sup_exits.specs.declared.rule.Holding.{Holding}

-- the weights of these, added up. Two lists that weigh the same by every weight are the same multiset
abbrev pub weigh : {X : Type 0} → (X → ℕ) → List X → ℕ
weigh h [] = 0
weigh h (x ∷ xs) = h x + weigh h xs

abbrev pub nobody : Child
nobody = record { number = 0; arg = [] }

abbrev pub holding : ℕ → List Child → List Child → List Child → Holding
holding parts made paid owes = record { parts = parts; made = made; paid = paid; owes = owes }

abbrev pub nothing : Holding
nothing = holding 0 [] [] []

-- without a part no child was made and no exit paid
abbrev pub IsIdle : Holding → Type 0
IsIdle v = v.parts ≡ 0 → (v.made ≡ []) × (v.paid ≡ [])

abbrev pub AreIdle : List Holding → Type 0
AreIdle views = (seat : ℕ) (v : Holding) → get_elem? views seat ≡ some v → IsIdle v

-- the seats have all parts. The children that were made are those whose exit was paid and those who owe it, each as often
abbrev pub Balances : ℕ → List Holding → Type 0
Balances n views =
    (weigh (λ v. v.parts) views ≡ n)
    × ((h : Child → ℕ) → weigh (λ v. weigh h v.made) views ≡ weigh (λ v. weigh h v.paid) views + weigh (λ v. weigh h v.owes) views)
    × AreIdle views

-- the children that were made are those whose exit was paid and these, each as often
abbrev pub AddUp : List Child → List Child → List Child → Type 0
AddUp made paid owes = (h : Child → ℕ) → weigh h made ≡ weigh h paid + weigh h owes

-- each of the first stands among the others, at least as often
abbrev pub AreAmong : List Child → List Child → Type 0
AreAmong some_of all = (h : Child → ℕ) → weigh h some_of ≤ weigh h all

-- it learns that it has no more parts than there are
abbrev pub Bounds : Step (Unit {0}) → Me (Unit {0}) Holding → ℕ → Me (Unit {0}) Holding → Type 0
Bounds step before found after = (after ≡ before) × (before.0.parts ≤ 2 ^ 64 - 1)

-- what has all parts learns who owes an exit
abbrev pub Learns : Step (Unit {0}) → Me (Unit {0}) Holding → ℕ → Me (Unit {0}) Holding → Type 0
Learns step before found after = (after ≡ before) × ((owes : List Child) × AddUp (before.0).made (before.0).paid owes)
