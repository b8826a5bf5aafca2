-- The exits of notes that come one after the other.
use Rattle.std.proofs.Common.{◌≡◌, List, [], ◌∷◌, ◌++◌, refl, ap}
use Rattle.sup_types.specs.declared.history.Operation.TheVariants.{Exit}
use Rattle.sup_inbox.specs.declared.note.Note.{Note}
use Rattle.sup_crew.specs.Exits.{exits}

pub exits-append : (xs ys : List Note) → exits (xs ++ ys) ≡ exits xs ++ exits ys
exits-append [] ys = refl
exits-append (n ∷ ns) ys = ap (λ l. Exit n.number n.reason ∷ l) (exits-append ns ys)
