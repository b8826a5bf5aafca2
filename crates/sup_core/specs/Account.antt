-- The reference semantics of the supervisor of one thread: each reply is computed from the whole account of a history.
use Rattle.std.specs.Prelude.{◌≡◌, ℕ, zero, suc, ◌-◌, ◌==◌, List, [], ◌∷◌, ◌++◌, Bool, false, not, ◌||◌, length, map, filter, fold, count_by, max, slice_index_or, Option, Some, None, if◌then◌else◌}
use Rattle.std.specs.List.{list_any}
use Rattle.sup_types.specs.declared.text.Text.{Text}
use Rattle.sup_types.specs.declared.template.Template.{Template}
use Rattle.sup_types.specs.declared.view.Row.{Row}
use Rattle.sup_types.specs.declared.view.Status.TheVariants as status
use Rattle.sup_types.specs.declared.history.Operation.{Operation}
use Rattle.sup_types.specs.declared.history.Answer.{Answer}
use Rattle.sup_types.specs.declared.history.Answer.TheVariants.{Ignore}
use Rattle.sup_types.specs.declared.history.Entry.{Entry}
use Rattle.sup_types.specs.declared.history.Reply.{Reply}
use Rattle.sup_types.specs.declared.history.Reply.TheVariants.{Started, Removed, Restarted, Restarting, Ignored, Ended}
use Rattle.sup_core.specs.State.{State}
use Rattle.sup_core.specs.Replies.{reply_to, asked_argument}
use Rattle.sup_core.specs.Changes.{makes_child, is_attempt, goes_down, start_argument, is_end_of}
use Rattle.sup_window.specs.Attempts.{remembered}

-- an entry, the moment at which it counts, and its reply
pub record Item : Type 0 where
  pub entry : Entry
  pub at : ℕ
  pub reply : Reply

-- the greatest moment of an entry
abbrev pub latest_moment : List Item → ℕ
latest_moment items = fold max 0 (map (λ item. item.entry.moment) items)

-- how many children were made
abbrev pub made_count : List Item → ℕ
made_count items = count_by (λ item. makes_child item.reply) items

-- whether the supervisor gave up, was stopped or went down with a significant child
abbrev pub is_down : List Item → Bool
is_down items = list_any (λ item. goes_down item.reply) items

-- the arguments with that of the child that the item made: the start's, or that of the child that is restarted
abbrev pub with_argument : List Text → Operation → Reply → List Text
with_argument args operation (Started number) = args ++ start_argument operation ∷ []
with_argument args operation (Restarted number next) = args ++ slice_index_or args (number - 1) [] ∷ []
with_argument args operation _ = args

-- the arguments of the children that were made, in the order of their numbers
abbrev pub arguments : List Item → List Text
arguments items = fold (λ args item. with_argument args item.entry.operation item.reply) [] items

-- the argument of the child with this number
abbrev pub argument_of : List Item → ℕ → Text
argument_of items number = slice_index_or (arguments items) (number - 1) []

-- whether an operation with this reply took the child with this number away, or left it waiting for another try
abbrev pub removes : ℕ → Operation → Reply → Bool
removes number operation (Removed other) = number == other
removes number operation (Ignored other) = number == other
removes number operation (Restarted other next) = number == other
removes number operation Ended = is_end_of number operation
removes number operation _ = false

abbrev pub leaves_waiting : ℕ → Reply → Bool
leaves_waiting number (Restarting other code) = number == other
leaves_waiting number _ = false

-- whether the child with this number is listed no more
abbrev pub is_gone : List Item → ℕ → Bool
is_gone items number = is_down items || list_any (λ item. removes number item.entry.operation item.reply) items

-- whether a restart of the child with this number failed
abbrev pub is_restarting : List Item → ℕ → Bool
is_restarting items number = list_any (λ item. leaves_waiting number item.reply) items

-- the numbers from 1 on, in order
abbrev pub numbers_to : ℕ → List ℕ
numbers_to zero = []
numbers_to (suc n) = numbers_to n ++ suc n ∷ []

-- the row of the child with this number
abbrev pub row_of : List Item → ℕ → Row
row_of items number =
    record {
      number = number;
      status = if is_restarting items number then status.Restarting else status.Running;
      arg = argument_of items number;
    }

-- the children that were made and are not gone
abbrev pub listed_rows : List Item → List Row
listed_rows items = map (row_of items) (filter (λ number. not (is_gone items number)) (numbers_to (made_count items)))

-- the moments of all attempts to restart; none is ever dropped
abbrev pub attempt_moments : List Item → List ℕ
attempt_moments items = map (λ item. item.at) (filter (λ item. is_attempt item.reply) items)

-- all that the next reply depends on
abbrev pub standing : Template → List Item → State
standing template items =
    record {
      template = template;
      rows = listed_rows items;
      made = made_count items;
      latest = latest_moment items;
      attempts = attempt_moments items;
      down = is_down items;
      steps = length items;
    }

-- the moment at which an entry with this moment counts: one lower than an earlier entry's is taken as the highest so far
abbrev pub effective_moment : List Item → ℕ → ℕ
effective_moment items moment = max (latest_moment items) moment

-- one more entry, with its reply
abbrev pub item_of : Template → List Item → Entry → Item
item_of template items entry =
    record { entry = entry; at = effective_moment items entry.moment; reply = reply_to (standing template items) entry }

-- the entries of a history, each with its reply
abbrev pub account : Template → List Entry → List Item
account template history = fold (λ items entry. items ++ item_of template items entry ∷ []) [] history

-- the supervisor after a history
abbrev pub state_after : Template → List Entry → State
state_after template history = standing template (account template history)

-- the reply to an entry after a history
abbrev pub reply_after : Template → List Entry → Entry → Reply
reply_after template history entry = reply_to (state_after template history) entry

-- the same with the attempts alone that a window remembers
abbrev pub trimmed : State → State
trimmed s = record s { attempts = remembered s.template.intensity s.attempts }

-- a supervisor's state is that after this history, of whose attempts it has those that its window remembers
pub record IsAfter (s : State) (history : List Entry) : Type 0 where
  pub state : s ≡ trimmed (state_after s.template history)

-- what a start function that answers like this says to an argument, if one is asked for
abbrev pub answer_to : (Text → ℕ → Answer) → Option Text → ℕ → Answer
answer_to answer None moment = Ignore
answer_to answer (Some arg) moment = answer arg moment

-- the entry by which a handle asks for an operation after a history; the start function is asked at most once
abbrev pub entry_of : (Text → ℕ → Answer) → Template → List Entry → ℕ → ℕ → Operation → ℕ → Entry
entry_of answer template history handle serial operation moment =
    record {
      handle = handle;
      serial = serial;
      moment = moment;
      operation = operation;
      answer = answer_to answer (asked_argument (state_after template history) operation moment) moment;
    }
