-- What is known of a handle that a run uses.
use Rattle.std.specs.Prelude.{ℕ, List, [], ◌∷◌, drop}
use Rattle.sup_types.specs.declared.history.Entry.{Entry}
use Rattle.sup_desk.specs.Knowledge.{Knowledge}

-- what the handle knows, and how many updates it had made before the run
pub record Used : Type 0 where
  pub knows : Knowledge
  pub since : ℕ

abbrev pub used : Knowledge → ℕ → Used
used knows since = record { knows = knows; since = since }

-- the updates that it made in the run
abbrev pub calls_since : Used → List Entry
calls_since caller = drop caller.since caller.knows.calls

abbrev pub knowledge_of : List Used → List Knowledge
knowledge_of [] = []
knowledge_of (c ∷ cs) = c.knows ∷ knowledge_of cs
