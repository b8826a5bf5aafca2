-- What a clause sees of the inbox, of its posters and of its taker.
use Rattle.std.specs.Prelude.{◌≡◌, ℕ, suc, ◌≤◌, List, [], ◌∷◌}
use Rattle.std.specs.List.{Any, Contains}
use Rattle.atomic_table.specs.Seated.{TableId}
use Rattle.sup_inbox.specs.declared.note.Note.{Note}
use Rattle.sup_inbox.specs.declared.rule.Sent.{Sent}

-- an inbox: which one it is, and how many notes it holds at most
pub record Held : Type 0 where
  pub id : TableId
  pub capacity : ℕ

-- a poster: of which inbox, its number, and what it posted
pub record Posting : Type 0 where
  pub inbox : TableId
  pub number : ℕ
  pub posted : List Note

-- the taker: of which inbox, how many posters there are, and what it took
pub record Taking : Type 0 where
  pub inbox : TableId
  pub posters : ℕ
  pub taken : List Note

-- these are posters of the inbox, numbered from `first` on
abbrev pub AreFrom : TableId → ℕ → List Posting → Type 0
AreFrom id first [] = Unit {0}
AreFrom id first (p ∷ ps) = (p.inbox ≡ id) × (p.number ≡ first) × AreFrom id (suc first) ps

-- these are posters of the inbox
abbrev pub AreOf : TableId → List Posting → Type 0
AreOf id [] = Unit {0}
AreOf id (p ∷ ps) = (p.inbox ≡ id) × AreOf id ps

-- none of these posted a note
abbrev pub AreNew : List Posting → Type 0
AreNew [] = Unit {0}
AreNew (p ∷ ps) = (p.posted ≡ []) × AreNew ps

abbrev pub sent_of : Posting → Sent
sent_of p = record { poster = p.number; notes = p.posted }

-- the note is by one of the posters 1 to n
abbrev pub IsBy : ℕ → Note → Type 0
IsBy n note = (1 ≤ note.poster) × (note.poster ≤ n)

-- one of these posters posted the note
abbrev pub IsPosted : List Posting → Note → Type 0
IsPosted ps note = Any (λ p. Contains p.posted note) ps
