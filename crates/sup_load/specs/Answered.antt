-- How the program answers: a script, a history text or the lines of a server on standard input, a load, or words that are no
-- order.
use Rattle.std.specs.Prelude.{◌≡◌, ◌⊎◌, ℕ, Bool, true, List, [], Option, Result, Ok, Err}
use Rattle.std.specs.Borrow.{Bor}
use Rattle.sup_script.specs.Running.Answers.{IsInputAnswered}
use Rattle.sup_script.specs.declared.runs.answer.Input.{Input}
use Rattle.clap.specs.Kinds.{Kinds}
use Rattle.clap.specs.Walk.{Text}
use Rattle.clap.specs.declared.error.kind.ErrorKind.{ErrorKind}
use Rattle.sup_words.specs.Orders.{Command, IsOrder, IsRefusal, command_at, kinds_at}
use Rattle.sup_load.specs.Reports.{IsLoaded}
use Rattle.sup_load.specs.Statuses.{status_of_load}
use Rattle.sup_load.specs.declared.fault.LoadFault.{LoadFault}
use Rattle.sup_script.specs.declared.runs.answer.Status.{Status}
use Rattle.sup_script.specs.declared.runs.answer.Status.TheVariants as status
use Rattle.sup_words.specs.declared.words.Order.{Order}
use Rattle.sup_words.specs.declared.words.Order.TheVariants as order
use Rattle.sup_words.specs.Shown.{IsShown, IsShownAs}
use Rattle.sup_words.specs.declared.words.Serve.{Serve}

-- a load was run and told, and the status is that of its outcome
pub record IsLoadAnswered (contents held : Option (List ℕ)) (has_refused : Bool) (status : Status) : Type 0 where
  pub outcome : Result (Unit {0}) LoadFault
  pub loaded : IsLoaded contents held has_refused outcome
  pub status_is : status ≡ status_of_load outcome

-- lines were served: the words were no mistake, and a failure is of the input or of the output
pub record IsServed (has_failed has_refused : Bool) (s : Status) : Type 0 where
  pub understood : s ≡ status.BadInput → ⊥
  pub cause : s ≡ status.Failed → (has_failed ≡ true) ⊎ (has_refused ≡ true)

-- a journal was followed until a fault, and the input is left alone
pub record IsFollowed (remaining left : Option (List ℕ)) (s : Status) : Type 0 where
  pub alone : left ≡ remaining
  pub stopped : s ≡ status.Done → ⊥

-- a text was answered, or the input is left alone and a load is told or a text shown
abbrev pub IsAnswered : Option (List ℕ) → Option (List ℕ) → Option (List ℕ) → Option (List ℕ) → Bool → ℕ → Bool → Status → Type 0
IsAnswered remaining left contents held has_failed given has_refused status =
    ((input : Input) × IsInputAnswered input remaining left contents held has_failed given has_refused status)
    ⊎ ((left ≡ remaining) × (IsLoadAnswered contents held has_refused status ⊎ IsShown contents held has_refused status))

-- what an order asks for is done
abbrev pub IsDone : Order → Option (List ℕ) → Option (List ℕ) → Option (List ℕ) → Option (List ℕ) → Bool → ℕ → Bool → Status → Type 0
IsDone (order.Text input detail) remaining left contents held has_failed given has_refused status =
    IsInputAnswered input remaining left contents held has_failed given has_refused status
IsDone (order.Follow path) remaining left contents held has_failed given has_refused status = IsFollowed remaining left status
IsDone (order.Load load path detail) remaining left contents held has_failed given has_refused status =
    (left ≡ remaining) × IsLoadAnswered contents held has_refused status
IsDone (order.Serve how) remaining left contents held has_failed given has_refused status = IsServed has_failed has_refused status

-- the words are those of a server, which served
abbrev pub IsServing : Kinds → Command → Bool → Bool → Status → Type 0
IsServing kinds command has_failed has_refused status =
    (how : Serve) × (kinds ≡ []) × IsOrder command (order.Serve how) × IsServed has_failed has_refused status

-- the words are those of following a journal, which was followed
abbrev pub IsFollowing : Kinds → Command → Option (List ℕ) → Option (List ℕ) → Status → Type 0
IsFollowing kinds command remaining left status =
    (path : Bor Text) × (kinds ≡ []) × IsOrder command (order.Follow path) × IsFollowed remaining left status

-- the words of a load: it is told, or memory was wanting
abbrev pub IsLoadReply : Option (List ℕ) → Option (List ℕ) → Option (List ℕ) → Option (List ℕ) → Bool → Status → Type 0
IsLoadReply remaining left contents held has_refused s =
    (left ≡ remaining) × (IsLoadAnswered contents held has_refused s ⊎ ((held ≡ contents) × (s ≡ status.OtherFault)))

-- the order of the words is done; or they have none, and the input is left alone and that is shown
abbrev pub IsReply : Kinds → Command → Option (List ℕ) → Option (List ℕ) → Option (List ℕ) → Option (List ℕ) → Bool → ℕ → Bool → Status → Type 0
IsReply kinds command remaining left contents held has_failed given has_refused status =
    ((o : Order) × (kinds ≡ []) × IsOrder command o × IsDone o remaining left contents held has_failed given has_refused status)
    ⊎ ((kind : ErrorKind) × IsRefusal kinds command kind × (left ≡ remaining) × IsShownAs kind contents held has_refused status)

-- the same of words; the first is the program's name
abbrev pub IsReplyTo : List Text → Option (List ℕ) → Option (List ℕ) → Option (List ℕ) → Option (List ℕ) → Bool → ℕ → Bool → Status → Type 0
IsReplyTo words = IsReply (kinds_at words) (command_at words)
