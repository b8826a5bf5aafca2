-- What the program for texts does with words.
use Rattle.std.specs.Prelude.{◌≡◌, ◌⊎◌, ℕ, Bool, List, [], Option}
use Rattle.clap.specs.Kinds.{Kinds}
use Rattle.clap.specs.Walk.{Text}
use Rattle.clap.specs.declared.error.kind.ErrorKind.{ErrorKind}
use Rattle.sup_script.specs.Running.Answers.{IsInputAnswered}
use Rattle.sup_script.specs.declared.runs.answer.Status.{Status}
use Rattle.sup_script.specs.declared.runs.answer.Status.TheVariants as status
use Rattle.sup_words.specs.Orders.{Command, IsOrder, IsRefusal, command_at, kinds_at}
use Rattle.sup_words.specs.Shown.{IsShownAs}
use Rattle.sup_words.specs.declared.words.Order.{Order}
use Rattle.sup_words.specs.declared.words.Order.TheVariants as order

-- a text is answered, or a journal is followed, with the input left alone; a load and a server are refused, with input and output left alone
abbrev pub IsDone : Order → Option (List ℕ) → Option (List ℕ) → Option (List ℕ) → Option (List ℕ) → Bool → ℕ → Bool → Status → Type 0
IsDone (order.Text input detail) remaining left contents held has_failed given has_refused status =
    IsInputAnswered input remaining left contents held has_failed given has_refused status
IsDone (order.Follow path) remaining left contents held has_failed given has_refused s = (left ≡ remaining) × (s ≡ status.Done → ⊥)
IsDone (order.Load load path detail) remaining left contents held has_failed given has_refused s =
    (left ≡ remaining) × (held ≡ contents) × (s ≡ status.BadInput)
IsDone (order.Serve how) remaining left contents held has_failed given has_refused s =
    (left ≡ remaining) × (held ≡ contents) × (s ≡ status.BadInput)

-- the order of the words is done; or they have none, and the input is left alone and that is shown
abbrev pub IsReply : Kinds → Command → Option (List ℕ) → Option (List ℕ) → Option (List ℕ) → Option (List ℕ) → Bool → ℕ → Bool → Status → Type 0
IsReply kinds command remaining left contents held has_failed given has_refused status =
    ((o : Order) × (kinds ≡ []) × IsOrder command o × IsDone o remaining left contents held has_failed given has_refused status)
    ⊎ ((kind : ErrorKind) × IsRefusal kinds command kind × (left ≡ remaining) × IsShownAs kind contents held has_refused status)

-- the same of words; the first is the program's name
abbrev pub IsReplyTo : List Text → Option (List ℕ) → Option (List ℕ) → Option (List ℕ) → Option (List ℕ) → Bool → ℕ → Bool → Status → Type 0
IsReplyTo words = IsReply (kinds_at words) (command_at words)
