-- What the reading of a history text answers.
use Rattle.std.specs.Prelude.{◌≡◌, ℕ, ◌+◌, ◌<◌, List, [], ◌∷◌, ◌++◌, length, Option, None, Some}
use denote.Ref.{Bor}
use Rattle.sup_types.specs.declared.template.Template.{Template}
use Rattle.sup_types.specs.declared.history.Answer.{Answer}
use Rattle.sup_types.specs.declared.history.Entry.{Entry}
use Rattle.sup_format.specs.declared.fault.Fault.{Fault}
use Rattle.sup_format.specs.declared.fault.Fault.TheVariants as fault
use Rattle.sup_format.specs.Reading.Words.{IsSplit}
use Rattle.sup_format.specs.Reading.Headers.{IsFirst, IsNoFirst, IsOutOfRange}
use Rattle.sup_format.specs.Reading.Texts.{lines_of, IsFull}
use Rattle.sup_format.specs.Reading.History.{AreFirstWords, answer_words, entry_words, IsAnswer, IsEntry, EntryMeans, MeansNoEntry, AreEntries}

-- ---- a fault, and where it is

-- lines with no fault
abbrev pub AreRight : List (List ℕ) → Type 0
AreRight [] = Unit {0}
AreRight (first ∷ body) = (template : Template) × (entries : List Entry) × IsFirst AreFirstWords first template × AreEntries body entries

-- the line of this number begins here, and those before it have no fault
pub record IsFaultAt (bytes : List ℕ) (number : ℕ) : Type 0 where
  pub front : List ℕ
  pub rest : List ℕ
  pub parts : bytes ≡ front ++ rest
  pub full : IsFull front
  pub right : AreRight (lines_of front)
  pub number_is : number ≡ length (lines_of front) + 1

-- no line that is ended and spells what it should begins here
abbrev pub IsBadRest : List (List ℕ) → List ℕ → Type 0
IsBadRest [] rest = (line more : List ℕ) → IsSplit 10 rest line more → IsNoFirst AreFirstWords line
IsBadRest (first ∷ body) rest = (0 < length rest) × ((line more : List ℕ) → IsSplit 10 rest line more → MeansNoEntry line)

-- the reading stopped with this fault; memory can be refused for any entry that was read
abbrev pub HistoryStops : List ℕ → ℕ → Fault → Type 0
HistoryStops bytes number fault.OutOfMemory = (at : IsFaultAt bytes number) × (line : List ℕ) × (more : List ℕ) × (e : Entry) × IsSplit 10 at.rest line more × EntryMeans line e
HistoryStops bytes number fault.BadTemplate = (at : IsFaultAt bytes number) × (at.front ≡ []) × (line : List ℕ) × (more : List ℕ) × IsSplit 10 at.rest line more × IsOutOfRange AreFirstWords line
HistoryStops bytes number fault.BadLine = (at : IsFaultAt bytes number) × IsBadRest (lines_of at.front) at.rest
HistoryStops bytes number fault.ReadFault = ⊥
HistoryStops bytes number fault.WriteFault = ⊥
HistoryStops bytes number fault.TooLong = ⊥

-- ---- how far the reading came

-- the lines so far, which are all ended, spell the template and the entries, and this is the rest
pub record IsReadTo (text rest : List ℕ) (template : Template) (entries : List Entry) (line : ℕ) : Type 0 where
  pub done : List ℕ
  pub parts : text ≡ done ++ rest
  pub full : IsFull done
  pub first : List ℕ
  pub body : List (List ℕ)
  pub lines : lines_of done ≡ first ∷ body
  pub first_is : IsFirst AreFirstWords first template
  pub entries_are : AreEntries body entries
  pub number_is : line ≡ length body + 2

-- ---- parts of a line

abbrev pub HasAnswer : List (List ℕ) → Option Answer → Type 0
HasAnswer words None = (a : Answer) → IsAnswer a → words ≡ answer_words a → ⊥
HasAnswer words (Some a) = IsAnswer a × (words ≡ answer_words a)

abbrev pub HasEntry : List (List ℕ) → Option Entry → Type 0
HasEntry words None = (e : Entry) → IsEntry e → words ≡ entry_words e → ⊥
HasEntry words (Some e) = IsEntry e × (words ≡ entry_words e)

-- the entry of the next line, and the text after that line
abbrev pub IsNextEntry : List ℕ → Option (Entry × Bor (List ℕ)) → Type 0
IsNextEntry rest None = (line more : List ℕ) → IsSplit 10 rest line more → MeansNoEntry line
IsNextEntry rest (Some found) = (line : List ℕ) × IsSplit 10 rest line found.1.now × EntryMeans line found.0
