-- What the bytes of a history text spell: a first line with a template, and a line for each entry, all of them ended.
use Rattle.std.specs.Prelude.{◌≡◌, ◌⊎◌, ℕ, ◌<◌, ◌^◌, List, [], ◌∷◌, ◌++◌, codes}
use Rattle.std.specs.Fmt.{decimal}
use Rattle.sup_types.specs.declared.template.Template.{Template}
use Rattle.sup_types.specs.declared.history.Answer.{Answer}
use Rattle.sup_types.specs.declared.history.Answer.TheVariants as answer
use Rattle.sup_types.specs.declared.history.Entry.{Entry}
use Rattle.sup_types.specs.declared.history.Operation.{Operation}
use Rattle.sup_format.specs.declared.read.header.Parts.{Parts}
use Rattle.sup_format.specs.declared.spelled.AnswerName.{AnswerName}
use Rattle.sup_format.specs.declared.spelled.AnswerName.TheVariants as name
use Rattle.sup_format.specs.Reading.Words.{words_of}
use Rattle.sup_format.specs.Reading.Tokens.{verb_word, operation_verb, argument_words, IsOperation}
use Rattle.sup_format.specs.Reading.Headers.{limit_words, shutdown_words, IsPlain, IsFirst, IsTemplateOf}
use Rattle.sup_format.specs.Reading.Texts.{lines_of, IsFull}

-- ---- the first line: in version 1 the children are plain and never take the supervisor down, in version 2 it says

abbrev pub AreFirstWords : List (List ℕ) → Parts → Type 0
AreFirstWords words parts =
    (IsPlain parts × (words ≡ codes "history" ∷ codes "1" ∷ limit_words parts)) ⊎ (words ≡ codes "history" ∷ codes "2" ∷ (limit_words parts ++ shutdown_words parts))

-- ---- an entry's line

abbrev pub answer_words : Answer → List (List ℕ)
answer_words answer.Running = codes "running" ∷ []
answer_words answer.Ignore = codes "ignore" ∷ []
answer_words (answer.Failed code) = codes "failed" ∷ decimal code ∷ []

-- the name of an answer
abbrev pub answer_word : AnswerName → List ℕ
answer_word name.Running = codes "running"
answer_word name.Ignore = codes "ignore"
answer_word name.Failed = codes "failed"

-- an operation and its answer
abbrev pub deed_words : Operation → Answer → List (List ℕ)
deed_words operation a = verb_word (operation_verb operation) ∷ (argument_words operation ++ answer_words a)

abbrev pub entry_words : Entry → List (List ℕ)
entry_words e = decimal e.handle ∷ decimal e.serial ∷ decimal e.moment ∷ deed_words e.operation e.answer

-- what has a spelling
abbrev pub IsAnswer : Answer → Type 0
IsAnswer answer.Running = Unit {0}
IsAnswer answer.Ignore = Unit {0}
IsAnswer (answer.Failed code) = code < 2 ^ 32

pub record IsEntry (e : Entry) : Type 0 where
  pub handle : e.handle < 2 ^ 64
  pub serial : e.serial < 2 ^ 64
  pub moment : e.moment < 2 ^ 64
  pub operation : IsOperation e.operation
  pub answer : IsAnswer e.answer

-- a line spells an entry
pub record EntryMeans (line : List ℕ) (e : Entry) : Type 0 where
  pub fits : IsEntry e
  pub words : words_of line ≡ entry_words e

abbrev pub MeansNoEntry : List ℕ → Type 0
MeansNoEntry line = (e : Entry) → EntryMeans line e → ⊥

-- each line spells its entry
abbrev pub AreEntries : List (List ℕ) → List Entry → Type 0
AreEntries [] [] = Unit {0}
AreEntries [] (e ∷ es) = ⊥
AreEntries (line ∷ lines) [] = ⊥
AreEntries (line ∷ lines) (e ∷ es) = EntryMeans line e × AreEntries lines es

-- ---- a whole text

-- the bytes spell a template and entries
pub record Spells (bytes : List ℕ) (template : Template) (entries : List Entry) : Type 0 where
  pub first : List ℕ
  pub body : List (List ℕ)
  pub lines : lines_of bytes ≡ first ∷ body
  pub ended : IsFull bytes
  pub first_is : IsFirst AreFirstWords first template
  pub entries_are : AreEntries body entries

-- two templates with the same parts
pub record IsSameTemplate (t u : Template) : Type 0 where
  pub restart : t.restart ≡ u.restart
  pub kind : t.kind ≡ u.kind
  pub intensity : t.intensity ≡ u.intensity
  pub period : t.period ≡ u.period
  pub max : t.max ≡ u.max
  pub entries : t.entries ≡ u.entries
  pub significant : t.significant ≡ u.significant
  pub auto_shutdown : t.auto_shutdown ≡ u.auto_shutdown

-- ---- what is written: version 2, with 2^62 in the place of the template's `entries`

abbrev pub template_parts : Template → Parts
template_parts t =
    record { restart = t.restart; kind = t.kind; intensity = t.intensity; period = t.period; max = t.max; significant = t.significant; auto_shutdown = t.auto_shutdown }

abbrev pub first_words : Template → List (List ℕ)
first_words t = codes "history" ∷ codes "2" ∷ (limit_words (template_parts t) ++ shutdown_words (template_parts t))

pub record SpellsAs (bytes : List ℕ) (template : Template) (entries : List Entry) : Type 0 where
  pub written : Template
  pub written_is : IsTemplateOf written (template_parts template)
  pub spelled : Spells bytes written entries
  pub version_2 : words_of spelled.first ≡ first_words template
