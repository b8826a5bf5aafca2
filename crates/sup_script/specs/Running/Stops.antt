-- Where the answering of lines, or of entries, stops; `Texts` tells which text of replies some of them with no fault have.
use Rattle.std.specs.Prelude.{◌≡◌, ℕ, ◌+◌, ◌<◌, List, [], ◌∷◌, ◌++◌, length}

-- a line, and the text of the replies of those before it, which have no fault
pub record IsAtLine {X : Type 0} (Texts : List X → List ℕ → Type 0) (lines : List X) (number : ℕ) (text : List ℕ) : Type 0 where
  pub front : List X
  pub line : X
  pub rest : List X
  pub parts : lines ≡ front ++ line ∷ rest
  pub number_is : number ≡ length front + 1
  pub answered : Texts front text

-- a line whose reply was written in part, or not at all: some of it was not sent
pub record IsCutShort {X : Type 0} (Texts : List X → List ℕ → Type 0) (lines : List X) (number : ℕ) (written : List ℕ) : Type 0 where
  pub before : List ℕ
  pub at : IsAtLine Texts lines number before
  pub sent : List ℕ
  pub unsent : List ℕ
  pub written_is : written ≡ before ++ sent
  pub some : 0 < length unsent
  pub reply : Texts (at.front ++ at.line ∷ []) (before ++ (sent ++ unsent))
