-- What the bytes of a line of a script mean, after its header.
use Rattle.std.specs.Prelude.{◌≡◌, ◌⊎◌, ℕ, ◌<◌, ◌^◌, List, [], ◌∷◌, Option, codes, MatchOption}
use Rattle.std.specs.Fmt.{decimal}
use Rattle.sup_types.specs.Text.{IsText}
use Rattle.sup_format.specs.declared.read.command.Command.{Command}
use Rattle.sup_format.specs.declared.read.command.Command.TheVariants as command
use Rattle.sup_format.specs.declared.spelled.Query.{Query}
use Rattle.sup_format.specs.declared.spelled.Query.TheVariants as query
use Rattle.sup_format.specs.Reading.Words.{words_of}
use Rattle.sup_format.specs.Reading.Tokens.{verb_word, operation_verb, argument_words, IsOperation}

-- the names of the calls by identifier
abbrev pub IsIdentifierWord : List ℕ → Type 0
IsIdentifierWord word = (word ≡ codes "terminate_id") ⊎ ((word ≡ codes "delete_child") ⊎ (word ≡ codes "restart_child"))

-- the names of the commands that enter nothing
abbrev pub query_word : Query → List ℕ
query_word query.Which = codes "which"
query_word query.Count = codes "count"
query_word query.TerminateId = codes "terminate_id"
query_word query.DeleteChild = codes "delete_child"
query_word query.RestartChild = codes "restart_child"

-- the words of a command: an operation has its moment after its name
abbrev pub AreWordsOf : List (List ℕ) → Command → Type 0
AreWordsOf words (command.Update moment o) = words ≡ verb_word (operation_verb o) ∷ decimal moment ∷ argument_words o
AreWordsOf words command.Which = words ≡ codes "which" ∷ []
AreWordsOf words command.Count = words ≡ codes "count" ∷ []
AreWordsOf words (command.ById text) = (name : List ℕ) × IsIdentifierWord name × (words ≡ name ∷ text ∷ [])

-- what has a spelling
abbrev pub IsCommand : Command → Type 0
IsCommand (command.Update moment o) = (moment < 2 ^ 64) × IsOperation o
IsCommand command.Which = Unit {0}
IsCommand command.Count = Unit {0}
IsCommand (command.ById text) = IsText text

-- words spell a command
pub record WordsMean (words : List (List ℕ)) (c : Command) : Type 0 where
  pub fits : IsCommand c
  pub spelled : AreWordsOf words c

-- a line means a command
abbrev pub LineMeans : List ℕ → Command → Type 0
LineMeans line c = WordsMean (words_of line) c

-- words spell no command
abbrev pub MeansNothing : List (List ℕ) → Type 0
MeansNothing words = (c : Command) → WordsMean words c → ⊥

-- what was read is meant, and if nothing was read nothing is
abbrev pub IsReading : List (List ℕ) → Option Command → Type 0
IsReading words found = MatchOption found (MeansNothing words) (λ c. WordsMean words c)
