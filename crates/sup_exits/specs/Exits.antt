-- The exits of children, as lists.
use Rattle.std.specs.Prelude.{List, [], ◌∷◌}
use Rattle.sup_types.specs.declared.history.Operation.{Operation}
use Rattle.sup_types.specs.declared.history.Operation.TheVariants.{Exit as Exited}
use Rattle.sup_exits.specs.declared.exit.Child.{Child}
use Rattle.sup_exits.specs.declared.exit.Exit.{Exit}

-- the children whose exits these are
abbrev pub children_of : List Exit → List Child
children_of [] = []
children_of (e ∷ es) = e.child ∷ children_of es

-- how they are entered
abbrev pub operations_of : List Exit → List Operation
operations_of [] = []
operations_of (e ∷ es) = Exited e.child.number e.reason ∷ operations_of es
