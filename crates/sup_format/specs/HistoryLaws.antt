-- How many entries a history text has.
use Rattle.std.proofs.Common.{◌≡◌, ℕ, List, [], ◌∷◌, length, refl, arith}
use Rattle.sup_types.specs.declared.history.Entry.{Entry}
use Rattle.sup_format.specs.Reading.History.{AreEntries}

pub entries_length : (lines : List (List ℕ)) (es : List Entry) → AreEntries lines es → length es ≡ length lines
entries_length [] [] s = refl
entries_length [] (e ∷ es) s = absurd s
entries_length (l ∷ ls) [] s = absurd s
entries_length (l ∷ ls) (e ∷ es) s = let more = entries_length ls es s.1 in omega (arith, more)
