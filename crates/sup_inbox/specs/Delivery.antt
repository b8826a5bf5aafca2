-- What each poster posted is what was taken of it and then what the queue holds of it, in its order, and there is no other note.
use Rattle.std.specs.Prelude.{◌≡◌, ℕ, zero, suc, ◌+◌, ◌<◌, ◌≤◌, true, false, cond, ◌==◌, List, [], ◌∷◌, ◌++◌, length}
use Rattle.std.specs.List.{Any}
use mathlib.Core.Option.{some}
use lib.ListN.{get_elem?}
use Rattle.crossbeam_queue.specs.Passes.{Pass, view}
use Rattle.sup_inbox.specs.declared.note.Note.{Note}
use Rattle.sup_inbox.specs.declared.rule.Sent.{Sent}
use Rattle.sup_inbox.specs.declared.rule.View.{View}

-- the notes by this poster, in order
abbrev pub from : List Note → ℕ → List Note
from [] w = []
from (n ∷ ns) w = cond (n.poster == w) (n ∷ from ns w) (from ns w)

-- how many notes these posters posted
abbrev pub total : List Sent → ℕ
total [] = 0
total (s ∷ ss) = length s.notes + total ss

-- what f gives for each of these posters, added up
abbrev pub sum_of : (ℕ → ℕ) → List Sent → ℕ
sum_of f [] = 0
sum_of f (s ∷ ss) = f s.poster + sum_of f ss

-- what f gives for those of the posters 1 to n that have no pass, added up
abbrev pub sum_idle : (ℕ → ℕ) → (ℕ → ℕ) → ℕ → ℕ
sum_idle places f zero = 0
sum_idle places f (suc n) = sum_idle places f n + cond (places (suc n) == 0) (f (suc n)) 0

abbrev pub taker_view : ℕ → List Note → List Sent → View
taker_view made taken gathered = record { posts = false; poster = 0; posted = []; takes = true; made = made; taken = taken; gathered = gathered }

abbrev pub poster_view : ℕ → List Note → View
poster_view number posted = record { posts = true; poster = number; posted = posted; takes = false; made = 0; taken = []; gathered = [] }

-- what the pass knows
abbrev pub known_by : Pass Note View → View
known_by pass = view pass

-- the pass that is first: it takes, and no poster is made
abbrev pub root : View
root = taker_view 0 [] []

abbrev pub nobody : View
nobody = record { posts = false; poster = 0; posted = []; takes = false; made = 0; taken = []; gathered = [] }

abbrev pub opened : View → View
opened v = taker_view (v.made + 1) v.taken v.gathered

abbrev pub seat : View → View
seat v = poster_view (v.made + 1) []

abbrev pub gathered : View → View → View
gathered v u = taker_view v.made v.taken (v.gathered ++ record { poster = u.poster; notes = u.posted } ∷ [])

abbrev pub posts : View → Note → View
posts v x = poster_view v.poster (v.posted ++ x ∷ [])

abbrev pub takes : View → Note → View
takes v x = taker_view v.made (v.taken ++ x ∷ []) v.gathered

-- a poster has one pass, which knows what was posted. The pass k of a poster is kept as k + 1, and 0 is no pass
abbrev pub FitsPoster : (ℕ → ℕ) → (ℕ → List Note) → ℕ → View → Type 0
FitsPoster places sent pass v = v.posts ≡ true → (places v.poster ≡ suc pass) × (v.posted ≡ sent v.poster)

-- no poster has this number
abbrev pub IsIdle : (ℕ → ℕ) → (ℕ → List Note) → ℕ → Type 0
IsIdle places sent w = (places w ≡ 0) × (sent w ≡ [])

-- these posters have no pass any more, and their notes are what they posted
abbrev pub AreGathered : ℕ → (ℕ → ℕ) → (ℕ → List Note) → List Sent → Type 0
AreGathered made places sent [] = Unit {0}
AreGathered made places sent (s ∷ ss) = (s.poster ≤ made) × (places s.poster ≡ 0) × (s.notes ≡ sent s.poster) × AreGathered made places sent ss

-- the one taker knows what was taken, that the numbers of no poster posted nothing, and what the gathered posters posted: those
-- that have no pass, each once
pub record IsTaker (taker : ℕ) (places : ℕ → ℕ) (sent : ℕ → List Note) (taken : List Note) (pass : ℕ) (v : View) : Type 0 where
  pub one : pass ≡ taker
  pub took : v.taken ≡ taken
  pub none : IsIdle places sent 0
  pub later : (w : ℕ) → v.made < w → IsIdle places sent w
  pub known : AreGathered v.made places sent v.gathered
  pub once : (f : ℕ → ℕ) → sum_idle places f v.made ≡ sum_of f v.gathered

abbrev pub FitsTaker : ℕ → (ℕ → ℕ) → (ℕ → List Note) → List Note → ℕ → View → Type 0
FitsTaker taker places sent taken pass v = v.takes ≡ true → IsTaker taker places sent taken pass v

abbrev pub Fits : ℕ → (ℕ → ℕ) → (ℕ → List Note) → List Note → ℕ → View → Type 0
Fits taker places sent taken pass v = FitsPoster places sent pass v × FitsTaker taker places sent taken pass v

abbrev pub Delivers : List Note → List View → Type 0
Delivers items views =
    (taker : ℕ) × (places : ℕ → ℕ) × (sent : ℕ → List Note) × (taken : List Note)
    × ((w : ℕ) → from (taken ++ items) w ≡ sent w)
    × ((pass : ℕ) (v : View) → get_elem? views pass ≡ some v → Fits taker places sent taken pass v)

-- what each of these posted stands among the notes
abbrev pub AreSent : List Note → List Sent → Type 0
AreSent notes [] = Unit {0}
AreSent notes (s ∷ ss) = (from notes s.poster ≡ s.notes) × AreSent notes ss

-- once all posters were gathered in: what each posted is what was taken of it and what the queue holds of it, and there is no more. Each
-- poster is among those that were gathered in
pub record IsSettled (v : View) (items : List Note) : Type 0 where
  pub each : AreSent (v.taken ++ items) v.gathered
  pub none : from (v.taken ++ items) 0 ≡ []
  pub later : (w : ℕ) → v.made < w → from (v.taken ++ items) w ≡ []
  pub count : length v.taken + length items ≡ total v.gathered
  pub members : (w : ℕ) → 1 ≤ w → w ≤ v.made → Any (λ s. s.poster ≡ w) v.gathered
