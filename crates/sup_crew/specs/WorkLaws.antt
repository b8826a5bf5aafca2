-- The ends that are in notes which come one after the other.
use Rattle.std.proofs.Common.{◌≡◌, ℕ, List, [], ◌∷◌, ◌++◌, refl, ap}
use Rattle.sup_types.specs.declared.text.Text.{Text}
use Rattle.sup_types.specs.declared.reason.Reason.{Reason}
use Rattle.sup_inbox.specs.declared.note.Note.{Note}
use Rattle.sup_crew.specs.Work.{ended, ended_of, AreEnds}

pub ended-append : (xs ys : List Note) → ended (xs ++ ys) ≡ ended xs ++ ended ys
ended-append [] ys = refl
ended-append (n ∷ ns) ys = ap (λ l. ended_of n ∷ l) (ended-append ns ys)

pub are_ends-append : (may_end : ℕ → Text → Reason → Type 0) (xs ys : List Note) → AreEnds may_end xs → AreEnds may_end ys → AreEnds may_end (xs ++ ys)
are_ends-append may_end [] ys a b = b
are_ends-append may_end (n ∷ ns) ys a b = (a.0, are_ends-append may_end ns ys a.1 b)

pub are_ends-split : (may_end : ℕ → Text → Reason → Type 0) (xs ys : List Note) → AreEnds may_end (xs ++ ys) → AreEnds may_end xs × AreEnds may_end ys
are_ends-split may_end [] ys h = (tt, h)
are_ends-split may_end (n ∷ ns) ys h = let r = are_ends-split may_end ns ys h.1 in ((h.0, r.0), r.1)
