-- The exits that notes tell, and the exits among operations.
use Rattle.std.specs.Prelude.{List, [], ◌∷◌}
use Rattle.sup_types.specs.declared.history.Operation.{Operation}
use Rattle.sup_types.specs.declared.history.Operation.TheVariants.{Exit}
use Rattle.sup_inbox.specs.declared.note.Note.{Note}

-- the exits that the notes tell
abbrev pub exits : List Note → List Operation
exits [] = []
exits (n ∷ ns) = Exit n.number n.reason ∷ exits ns

-- the operation, if it is an exit
abbrev pub exit_of : Operation → List Operation
exit_of (Exit number reason) = Exit number reason ∷ []
exit_of _ = []
