-- When a call answers which number.
use Rattle.std.specs.Prelude.{◌≡◌, ◌<◌, ◌≤◌, ◌↔◌, ◌⊎◌, ◌+◌, ℕ, List, ◌++◌, length, drop, true, false}
use Rattle.sup_types.specs.declared.history.Entry.{Entry}
use Rattle.sup_format.specs.declared.fault.Fault.{Fault}
use Rattle.sup_format.specs.Faults.{fault_number}
use Rattle.sup_format.specs.Reading.Words.{IsSplit}
use Rattle.sup_format.specs.Reading.History.{EntryMeans, MeansNoEntry}
use Rattle.sup_format.specs.Writing.HistoryTexts.{entry_line}
use Rattle.sup_c.specs.declared.c.CEntry.{CEntry}
use Rattle.sup_c.specs.declared.held.Held.{Held}
use Rattle.sup_c.specs.Spelled.{IsSpelledOperation, spelled_entry, IsSpelledEntry, IsUnfit}
use Rattle.sup_c.specs.Told.{told_entry}
use Rattle.sup_c.specs.Held.{state_of}

-- of an open handle it is done, of a closed one it is refused
pub record AnswersWhileOpen (held : Held) (answer : ℕ) : Type 0 where
  pub done : (answer ≡ 0) ↔ (held.is_open ≡ true)
  pub closed : (answer ≡ 15) ↔ (held.is_open ≡ false)

-- it is done exactly if the handle is open, the entry spells an operation and the history has room
pub record AnswersAsk (held : Held) (entry : CEntry) (answer : ℕ) : Type 0 where
  pub done : (answer ≡ 0) ↔ ((held.is_open ≡ true) × IsSpelledOperation entry × ((state_of held).steps < (state_of held).template.entries))
  pub full : (answer ≡ 2) ↔ ((held.is_open ≡ true) × IsSpelledOperation entry × ((state_of held).steps ≡ (state_of held).template.entries))
  pub unspelled : (answer ≡ 9) ↔ ((held.is_open ≡ true) × (IsSpelledOperation entry → ⊥))
  pub closed : (answer ≡ 15) ↔ (held.is_open ≡ false)

-- it is done exactly if the handle is open, the entry is spelled and the history has room
pub record AnswersStep (held : Held) (entry : CEntry) (answer : ℕ) : Type 0 where
  pub done : (answer ≡ 0) ↔ ((held.is_open ≡ true) × IsSpelledEntry entry × ((state_of held).steps < (state_of held).template.entries))
  pub full : (answer ≡ 2) ↔ ((held.is_open ≡ true) × IsSpelledEntry entry × ((state_of held).steps ≡ (state_of held).template.entries))
  pub unspelled : (answer ≡ 9) ↔ ((held.is_open ≡ true) × (IsSpelledEntry entry → ⊥))
  pub closed : (answer ≡ 15) ↔ (held.is_open ≡ false)

-- as of a step, if the history has as many entries as the stamp says. Memory may be refused
pub record AnswersStepAt (held : Held) (entry : CEntry) (stamp : ℕ) (answer : ℕ) : Type 0 where
  pub done : ((answer ≡ 0) ⊎ (answer ≡ 1)) ↔ ((held.is_open ≡ true) × IsSpelledEntry entry × ((state_of held).steps ≡ stamp) × ((state_of held).steps < (state_of held).template.entries))
  pub full : (answer ≡ 2) ↔ ((held.is_open ≡ true) × IsSpelledEntry entry × ((state_of held).steps ≡ stamp) × ((state_of held).steps ≡ (state_of held).template.entries))
  pub stale : (answer ≡ 16) ↔ ((held.is_open ≡ true) × IsSpelledEntry entry × ((state_of held).steps ≡ stamp → ⊥))
  pub unspelled : (answer ≡ 9) ↔ ((held.is_open ≡ true) × (IsSpelledEntry entry → ⊥))
  pub closed : (answer ≡ 15) ↔ (held.is_open ≡ false)

-- an open handle is refused; of a closed one it is done, or the number is that of what is wrong
pub record AnswersOpening (held : Held) (text : List ℕ) (entries answer : ℕ) : Type 0 where
  pub open_already : (answer ≡ 15) ↔ (held.is_open ≡ true)
  pub closed : held.is_open ≡ false → (answer ≡ 0) ⊎ ((fault : Fault) × (answer ≡ fault_number fault) × IsUnfit text entries fault)

-- it is done, or memory was refused to list the rows anew, exactly if the handle is open
pub record AnswersRow (held : Held) (index answer : ℕ) : Type 0 where
  pub done : ((answer ≡ 0) ⊎ (answer ≡ 1)) ↔ (held.is_open ≡ true)
  pub refused : answer ≡ 1 → index ≡ 0
  pub closed : (answer ≡ 15) ↔ (held.is_open ≡ false)

-- a line is written, or too long for the room, or memory was refused, exactly if the entry is spelled
pub record AnswersWriting (entry : CEntry) (size answer : ℕ) : Type 0 where
  pub spelled : ((answer ≡ 0) ⊎ ((answer ≡ 1) ⊎ (answer ≡ 12))) ↔ IsSpelledEntry entry
  pub unspelled : (answer ≡ 9) ↔ (IsSpelledEntry entry → ⊥)
  pub fits : answer ≡ 0 → length (entry_line (spelled_entry entry)) ≤ size
  pub long : answer ≡ 12 → size < length (entry_line (spelled_entry entry))

-- the line fills the front of the room
pub record IsWritten (line room after : List ℕ) (len : ℕ) : Type 0 where
  pub bytes : after ≡ line ++ drop (length line) room
  pub len_is : len ≡ length line

-- the first line of a text spells the entry that C reads
pub record ReadsEntry (text : List ℕ) (c : CEntry) (len : ℕ) : Type 0 where
  pub entry : Entry
  pub line : List ℕ
  pub rest : List ℕ
  pub split : IsSplit 10 text line rest
  pub means : EntryMeans line entry
  pub told : c ≡ told_entry entry
  pub len_is : len ≡ length line + 1

abbrev pub ReadsNone : List ℕ → Type 0
ReadsNone text = (line rest : List ℕ) → IsSplit 10 text line rest → MeansNoEntry line
