-- Which words lead where: what each order takes of them, and the kind of error where they are none.
use Rattle.std.specs.Prelude.{◌≡◌, ◌⊎◌, ◌<◌, ◌^◌, ℕ, Bool, List, [], Option, None, Some, Result, Ok, Err, MatchResult, codes, false, is_some, option_map, true}
use Rattle.std.specs.Borrow.{Bor}
use Rattle.std.specs.Str.Parse.{IsNumeral, digits_value, without_leading_plus}
use Rattle.clap.specs.Faults.{fault_of}
use Rattle.clap.specs.Kinds.{IsAmong, Kinds}
use Rattle.clap.specs.Simple.{subcommand_of}
use Rattle.clap.specs.Values.{kind_of}
use Rattle.clap.specs.Walk.{Row, Text, first_of, one_of}
use Rattle.clap.specs.declared.error.Error.{Error}
use Rattle.clap.specs.declared.error.kind.ErrorKind.{ErrorKind}
use Rattle.clap.specs.declared.error.kind.ErrorKind.TheVariants.{InvalidSubcommand, OutOfMemory}
use Rattle.sup_words.specs.Grammar.{supload_app}
use Rattle.sup_script.specs.declared.runs.answer.Detail.{Detail}
use Rattle.sup_script.specs.declared.runs.answer.Detail.TheVariants as detail
use Rattle.sup_script.specs.declared.runs.answer.Input.{Input}
use Rattle.sup_script.specs.declared.runs.answer.Input.TheVariants as input
use Rattle.sup_words.specs.declared.words.Order.{Order}
use Rattle.sup_words.specs.declared.words.Order.TheVariants as order

-- the command that clap found among the words, with a row for each of its options
abbrev pub Command : Type 0
Command = Option (Text × List Row)

-- a fault is explained where `--explain` was given
pub record IsDetail (rows : List Row) (answer : Detail) : Type 0 where
  pub given : one_of (codes "explain") rows ≡ Some (codes "true") → answer ≡ detail.Explained
  pub left_out : one_of (codes "explain") rows ≡ Some (codes "false") → answer ≡ detail.Number

-- the flag of this name was given, or it was not
pub record IsFlag (rows : List Row) (name : Text) (is_given : Bool) : Type 0 where
  pub given : one_of name rows ≡ Some (codes "true") → is_given ≡ true
  pub left_out : one_of name rows ≡ Some (codes "false") → is_given ≡ false

-- the option of this name has a text, whose digits write n, perhaps behind a plus
pub record HasNumber (rows : List Row) (name : Text) (n : ℕ) : Type 0 where
  pub text : Text
  pub found : one_of name rows ≡ Some text
  pub numeral : IsNumeral 10 (without_leading_plus text)
  pub fits : digits_value 10 (without_leading_plus text) < 2 ^ 64
  pub value : n ≡ digits_value 10 (without_leading_plus text)

-- the four numbers of a load
pub record AreNumbers (rows : List Row) (w n r t : ℕ) : Type 0 where
  pub workers : HasNumber rows (codes "workers") w
  pub children : HasNumber rows (codes "children") n
  pub readers : HasNumber rows (codes "readers") r
  pub turns : HasNumber rows (codes "turns") t

-- the path is the value of this name, if it was given
abbrev pub IsPath : List Row → Text → Option (Bor Text) → Type 0
IsPath rows name path = option_map (λ s. s.now) path ≡ first_of name rows

-- what is read is the file that was given, and else standard input, which is also meant by `-`
abbrev pub IsSource : Option Text → Option (Bor Text) → Type 0
IsSource given None = (given ≡ None) ⊎ (given ≡ Some (codes "-"))
IsSource given (Some path) = (Some path.now ≡ given) × (path.now ≡ codes "-" → ⊥)

-- a journal is read in a file, and the file of standard input is meant by `-`
abbrev pub IsJournalAt : Option Text → Text → Type 0
IsJournalAt given path = ((given ≡ Some (codes "-")) × (path ≡ codes "/dev/stdin")) ⊎ ((given ≡ Some path) × (path ≡ codes "-" → ⊥))

-- a text is answered that the command names, in the file that it is given, if it is given one
abbrev pub IsInput : Command → List Row → Input → Type 0
IsInput command rows (input.Script path) = (command ≡ Some (codes "script", rows)) × IsSource (first_of (codes "file") rows) path
IsInput command rows (input.History path) = (command ≡ Some (codes "replay", rows)) × IsSource (first_of (codes "file") rows) path
IsInput command rows (input.Journal path) = (command ≡ Some (codes "journal", rows)) × IsJournalAt (first_of (codes "file") rows) path.now
    × IsFlag rows (codes "follow") false

-- the order is the one that the command names, with what its options say
abbrev pub IsOrder : Command → Order → Type 0
IsOrder command (order.Text text answer) = (rows : List Row) × IsInput command rows text × IsDetail rows answer
IsOrder command (order.Follow path) = (rows : List Row) × (command ≡ Some (codes "journal", rows)) × IsJournalAt (first_of (codes "file") rows) path.now
    × IsFlag rows (codes "follow") true
IsOrder command (order.Load load path answer) = (rows : List Row) × (command ≡ Some (codes "load", rows))
    × AreNumbers rows load.workers load.children load.readers load.turns × IsPath rows (codes "journal") path × IsDetail rows answer
IsOrder command (order.Serve how) = (rows : List Row) × (command ≡ Some (codes "serve", rows)) × IsPath rows (codes "journal") how.journal
    × IsFlag rows (codes "anew") how.is_anew × IsFlag rows (codes "status") how.says_count

-- the command is given a file
abbrev pub HasFile : Command → Type 0
HasFile command = (name : Text) × (rows : List Row) × (command ≡ Some (name, rows)) × (is_some (first_of (codes "file") rows) ≡ true)

-- no order is the command's
pub record IsNoOrder (command : Command) (kind : ErrorKind) : Type 0 where
  pub none : (o : Order) → IsOrder command o → ⊥
  pub told : kind ≡ InvalidSubcommand

-- why there is no order: memory ran out, or clap refuses the words, or it takes them and they are no order all the same
abbrev pub IsRefusal : Kinds → Command → ErrorKind → Type 0
IsRefusal kinds command kind = (kind ≡ OutOfMemory) ⊎ (IsAmong kind kinds ⊎ ((kinds ≡ []) × IsNoOrder command kind))

-- where clap refuses nothing the order is the command's, and an error has its reason
abbrev pub LeadsTo : Kinds → Command → Result Order Error → Type 0
LeadsTo kinds command result = MatchResult result (λ o. (kinds ≡ []) × IsOrder command o) (λ e. IsRefusal kinds command (kind_of e))

-- the kinds of error that clap gives at words by the program's grammar, none where it takes them; the first word is the
-- program's name
unfoldable pub kinds_at : List Text → Kinds
kinds_at words = fault_of supload_app words

-- the command that it finds among them
unfoldable pub command_at : List Text → Command
command_at words = subcommand_of supload_app words

-- the same of words
abbrev pub WordsLeadTo : List Text → Result Order Error → Type 0
WordsLeadTo words = LeadsTo (kinds_at words) (command_at words)

-- this text, with nothing explained, unless memory ran out
abbrev pub IsTextOf : Input → Result Order Error → Type 0
IsTextOf text result = MatchResult result (λ o. o ≡ order.Text text detail.Number) (λ e. kind_of e ≡ OutOfMemory)

-- the load of these numbers, without a journal, and nothing is explained, unless memory ran out
abbrev pub IsLoadOf : ℕ → ℕ → ℕ → ℕ → Result Order Error → Type 0
IsLoadOf w n r t (Ok (order.Load load path answer)) =
    (load.workers ≡ w) × (load.children ≡ n) × (load.readers ≡ r) × (load.turns ≡ t) × (path ≡ None) × (answer ≡ detail.Number)
IsLoadOf w n r t (Ok _) = ⊥
IsLoadOf w n r t (Err e) = kind_of e ≡ OutOfMemory
