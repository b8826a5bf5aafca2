-- The lines that a load writes, in the words of the format.
use Rattle.std.specs.Prelude.{ℕ, List, [], ◌∷◌, ◌++◌, codes, decimal}
use Rattle.std.specs.List.{flat_map}
use Rattle.sup_format.specs.Writing.Replies.{line_of}
use Rattle.sup_load.specs.declared.load.Sums.{Sums}

-- names, each with its number
abbrev pub Fields : Type 0
Fields = List (List ℕ × ℕ)

-- a line of them
abbrev pub line_with : Fields → List ℕ
line_with fields = line_of (flat_map (λ f. f.0 ∷ decimal f.1 ∷ []) fields)

-- the numbers of the crew's run, and in a line of their own the questions that were answered
abbrev pub load_lines : Sums → List ℕ
load_lines s = line_with ((codes "made", s.tally.made) ∷ (codes "exits", s.tally.exits) ∷ (codes "strays", s.tally.strays) ∷ (codes "restarts", s.tally.restarts)
    ∷ (codes "gave_up", s.tally.given_up) ∷ (codes "left", s.left) ∷ (codes "held", s.held) ∷ [])
    ++ line_with ((codes "reads", s.reads) ∷ [])

-- what a call writes: a name and its number
abbrev pub named : List ℕ → ℕ → List ℕ
named name number = name ++ decimal number
