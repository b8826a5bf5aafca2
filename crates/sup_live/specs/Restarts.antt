-- Which children a driver restarted, by the replies to its calls.
use Rattle.std.specs.Prelude.{ℕ, List, [], ◌∷◌, ◌++◌}
use Rattle.sup_types.specs.declared.history.Operation.{Operation}
use Rattle.sup_types.specs.declared.history.Operation.TheVariants.{Stop}
use Rattle.sup_types.specs.declared.history.Reply.{Reply}
use Rattle.sup_types.specs.declared.history.Reply.TheVariants.{Restarted}
use Rattle.sup_exits.specs.declared.exit.Child.{Child}

-- the number of the child that was made by a restart, if one was
abbrev pub restarted_as : Reply → List ℕ
restarted_as (Restarted old number) = number ∷ []
restarted_as _ = []

-- the same by the reply to an operation; a stop restarts none
abbrev pub number_restarted : Operation → Reply → List ℕ
number_restarted Stop reply = []
number_restarted _ reply = restarted_as reply

-- the numbers of those that were made by these replies
abbrev pub restarted_among : List Reply → List ℕ
restarted_among [] = []
restarted_among (r ∷ rs) = restarted_as r ++ restarted_among rs

abbrev pub numbers_of : List Child → List ℕ
numbers_of [] = []
numbers_of (c ∷ cs) = c.number ∷ numbers_of cs
