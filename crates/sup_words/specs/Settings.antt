-- The options of a load, and the words that give them.
use Rattle.std.specs.Str.{bytes_eq}
use Rattle.std.specs.Prelude.{◌≡◌, ◌≤◌, ⊤, ℕ, List, [], ◌∷◌, ◌++◌, Option, Some, None, codes, decimal, if◌then◌else◌}

-- the four numbers that a load is given
pub data Setting : Type 0 where
  workers : Setting
  children : Setting
  readers : Setting
  turns : Setting

-- their names, as in `--workers`
abbrev pub name_of : Setting → List ℕ
name_of workers = codes "workers"
name_of children = codes "children"
name_of readers = codes "readers"
name_of turns = codes "turns"

-- the least and the most that each may be
abbrev pub least_of : Setting → ℕ
least_of workers = 1
least_of children = 1
least_of readers = 0
least_of turns = 1

abbrev pub most_of : Setting → ℕ
most_of workers = 64
most_of children = 65536
most_of readers = 64
most_of turns = 1000000

-- options, each with its number, in the order of the words
abbrev pub Given : Type 0
Given = List (Setting × ℕ)

-- their words: each is its flag and then its number, in decimal digits
abbrev pub flag_of : Setting → List ℕ
flag_of s = codes "--" ++ name_of s

abbrev pub words_of : Given → List (List ℕ)
words_of [] = []
words_of (p ∷ ps) = flag_of p.0 ∷ decimal p.1 ∷ words_of ps

-- the number that an option has, where it is given
abbrev pub number_in : Given → Setting → Option ℕ
number_in [] s = None
number_in (p ∷ ps) s = if bytes_eq (name_of p.0) (name_of s) then Some p.1 else number_in ps s

-- no option stands twice, nor among those before
abbrev pub AreNew : Given → Given → Type 0
AreNew before [] = ⊤
AreNew before (p ∷ ps) = (number_in before p.0 ≡ None) × AreNew (before ++ p ∷ []) ps

-- each number is in its range
abbrev pub AreWithin : Given → Type 0
AreWithin [] = ⊤
AreWithin (p ∷ ps) = (least_of p.0 ≤ p.1) × (p.1 ≤ most_of p.0) × AreWithin ps

-- each of the four is given once, in its range, in any order
pub record IsWhole (given : Given) (w n r t : ℕ) : Type 0 where
  pub once : AreNew [] given
  pub within : AreWithin given
  pub has_workers : number_in given workers ≡ Some w
  pub has_children : number_in given children ≡ Some n
  pub has_readers : number_in given readers ≡ Some r
  pub has_turns : number_in given turns ≡ Some t
