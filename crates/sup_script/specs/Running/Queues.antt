-- What the replies are that wait to be written; `Texts` tells which text of replies some lines, or entries, have.
use Rattle.std.specs.Prelude.{◌≡◌, ℕ, ◌+◌, ◌-◌, ◌<◌, ◌≤◌, List, ◌++◌, length, get_or, take}

-- the replies up to a mark are those of the lines up to it
pub record IsMark {X : Type 0} (Texts : List X → List ℕ → Type 0) (front : List X) (written waiting : List ℕ) (lines end : ℕ) : Type 0 where
  pub inside : end ≤ length waiting
  pub answered : Texts (take lines front) (written ++ take end waiting)

-- the replies of the last lines wait, and their ends are marked
pub record IsQueue {X : Type 0} (Texts : List X → List ℕ → Type 0) (front : List X) (written waiting ends : List ℕ) : Type 0 where
  pub whole : Texts front (written ++ waiting)
  pub first : ℕ
  pub count : first + length ends ≡ length front
  pub start : Texts (take first front) written
  pub marks : (k : ℕ) → k < length ends → IsMark Texts front written waiting (first + k + 1) (get_or ends k 0)
  pub last : get_or ends (length ends - 1) 0 ≡ length waiting
