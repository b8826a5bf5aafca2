-- The words of a line, and those that remain of it.
use Rattle.std.specs.Prelude.{◌≡◌, ℕ, ◌==◌, false, List, [], ◌∷◌, ◌++◌, Option, None, Some, All}
use Rattle.std.specs.List.{slice_split}
use denote.Ref.{Bor}

-- the parts of a line between its single spaces
abbrev pub words_of : List ℕ → List (List ℕ)
words_of line = slice_split (λ b. b == 32) line

-- the words of the remaining bytes, if there are any
abbrev pub words_left : Option (Bor (List ℕ)) → List (List ℕ)
words_left None = []
words_left (Some rest) = words_of rest.now

-- no such byte is there
abbrev pub Lacks : ℕ → List ℕ → Type 0
Lacks byte bytes = All (λ b. (b == byte) ≡ false) bytes

-- the bytes, cut at the first such byte
pub record IsSplit (byte : ℕ) (bytes front rest : List ℕ) : Type 0 where
  pub parts : bytes ≡ front ++ byte ∷ rest
  pub first : Lacks byte front
