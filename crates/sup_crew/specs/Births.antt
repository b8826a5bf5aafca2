-- That a child was made in a front of the history, and that those were that updates made.
use Rattle.std.specs.Prelude.{ℕ, ◌≤◌, List, [], ◌∷◌}
use Rattle.sup_types.specs.declared.template.Template.{Template}
use Rattle.sup_types.specs.declared.history.Entry.{Entry}
use Rattle.sup_types.specs.declared.history.Reply.{Reply}
use Rattle.sup_types.specs.declared.history.Reply.TheVariants.{Started, Restarted}
use Rattle.sup_core.specs.Account.{account, made_count}

-- numbers go from 1, one for each child that was made
abbrev pub IsBorn : Template → List Entry → ℕ → Type 0
IsBorn template front number = (1 ≤ number) × (number ≤ made_count (account template front))

-- the child that an update with this reply made, if it made one
abbrev pub IsBornBy : Template → List Entry → Reply → Type 0
IsBornBy template front (Started number) = IsBorn template front number
IsBornBy template front (Restarted old number) = IsBorn template front number
IsBornBy template front _ = Unit {0}

-- the children that updates with these replies made
abbrev pub AreBornBy : Template → List Entry → List Reply → Type 0
AreBornBy template front [] = Unit {0}
AreBornBy template front (reply ∷ replies) = IsBornBy template front reply × AreBornBy template front replies
