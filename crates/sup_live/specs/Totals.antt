-- Which children a crew made, and whose exits were reported.
use Rattle.std.specs.Prelude.{◌≡◌, ℕ, ◌+◌, List, length}
use Rattle.sup_exits.specs.declared.exit.Child.{Child}
use Rattle.sup_exits.specs.Holdings.{weigh}

-- That many children were made, and `owed` of them owe an exit. Each of the others has one exit: it is among those that were
-- entered, or among those that are left
pub record IsAccounted (children entered left : List Child) (made owed : ℕ) : Type 0 where
  pub owes : List Child
  pub made_is : made ≡ length children
  pub owed_is : owed ≡ length owes
  pub adds_up : (h : Child → ℕ) → weigh h children ≡ weigh h entered + weigh h left + weigh h owes
