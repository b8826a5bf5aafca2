-- Which handle has which number, and what each of them entered.
use Rattle.std.specs.Prelude.{◌≡◌, ℕ, suc, ◌+◌, List, [], ◌++◌, true, false}
use Rattle.std.specs.List.{All}
use mathlib.Core.Option.{some}
use lib.ListN.{get_elem?}
use Rattle.atomic_table.specs.Seated.{TableId}
use Rattle.atomic_table.specs.Table.{Me, Step}
use Rattle.sup_types.specs.declared.history.Entry.{Entry}
use Rattle.sup_desk.specs.declared.sessions.Known.{Known}
use Rattle.sup_desk.specs.Books.{IsMade}
use Rattle.sup_desk.specs.Knowledge.{entries_of}

-- which sessions it is, all that was entered, and how many handles were made
pub record Enrolled : Type 0 where
  pub id : TableId
  pub history : List Entry
  pub made : ℕ

-- the session registry of a token, its number, and what was entered under it
pub record TokenState : Type 0 where
  pub sessions : TableId
  pub number : ℕ
  pub calls : List Entry

abbrev pub keeper_view : List Entry → ℕ → Known
keeper_view history made = record { keeps = true; history = history; made = made; is_token = false; number = 0; calls = [] }

abbrev pub token_view : ℕ → List Entry → Known
token_view number calls = record { keeps = false; history = []; made = 0; is_token = true; number = number; calls = calls }

abbrev pub nobody : Known
nobody = record { keeps = false; history = []; made = 0; is_token = false; number = 0; calls = [] }

-- one handle more was made
abbrev pub opened : Known → Known
opened v = keeper_view v.history (v.made + 1)

-- the token of that handle, with what stands under its number already
abbrev pub newcomer : Known → Known
newcomer v = token_view (v.made + 1) (entries_of v.history (v.made + 1))

-- the keeper, with a token that it has taken in
abbrev pub joined : Known → Known → Known
joined v u = record { keeps = v.keeps; history = v.history; made = v.made; is_token = u.is_token; number = u.number; calls = u.calls }

-- the two apart again
abbrev pub kept : Known → Known
kept v = keeper_view v.history v.made

abbrev pub handed : Known → Known
handed v = token_view v.number v.calls

-- the one keeper knows all that was entered, and how many handles were made
abbrev pub FitsKeeper : ℕ → List Entry → ℕ → ℕ → Known → Type 0
FitsKeeper place history made seat v = v.keeps ≡ true → (seat ≡ place) × (v.history ≡ history) × (v.made ≡ made)

-- a number has one seat, kept as the seat's number and one: it is of a handle that was made, and knows what was entered under it
abbrev pub FitsToken : (ℕ → ℕ) → List Entry → ℕ → ℕ → Known → Type 0
FitsToken places history made seat v = v.is_token ≡ true → (places v.number ≡ suc seat) × IsMade made v.number × (v.calls ≡ entries_of history v.number)

abbrev pub Fits : ℕ → (ℕ → ℕ) → List Entry → ℕ → ℕ → Known → Type 0
Fits place places history made seat v = FitsKeeper place history made seat v × FitsToken places history made seat v

abbrev pub Enrols : List Known → Type 0
Enrols views =
    (place : ℕ) × (places : ℕ → ℕ) × (history : List Entry) × (made : ℕ)
    × ((seat : ℕ) (v : Known) → get_elem? views seat ≡ some v → Fits place places history made seat v)

-- the session registry has this name, all of this history and as many handles; and each entry is of a handle that was made
abbrev pub IsEnrolled : TableId → List Entry → ℕ → Enrolled → Type 0
IsEnrolled id history made sessions = (sessions ≡ record { id = id; history = history; made = made }) × All (λ entry. IsMade made entry.handle) history

-- ---- what a step of the keeper tells

-- the token's calls are all that was entered under its number, and its handle was made; then these entries are added to both
abbrev pub Entered : List Entry → Step (Unit {0}) → Me (Unit {0}) Known → ℕ → Me (Unit {0}) Known → Type 0
Entered entries step before found after =
    let v : Known = before.0 in
    (v.calls ≡ entries_of v.history v.number) × IsMade v.made v.number
    × (after ≡ (record { keeps = v.keeps; history = v.history ++ entries; made = v.made; is_token = v.is_token; number = v.number; calls = v.calls ++ entries }, before.1))
