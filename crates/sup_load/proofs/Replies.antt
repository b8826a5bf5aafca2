-- What the program answers to words, from what they lead to.
use Rattle.std.proofs.Common.{◌≡◌, ℕ, Bool, List, Option, sym, subst, inl, inr}
use Rattle.std.specs.Borrow.{Bor}
use Rattle.std.specs.Prelude.{Ok, Err}
use Rattle.clap.specs.Kinds.{Kinds}
use Rattle.clap.specs.Values.{kind_of}
use Rattle.clap.specs.Walk.{Text}
use Rattle.clap.specs.declared.error.Error.{Error}
use Rattle.sup_load.specs.Answered.{IsDone, IsReply, IsFollowed, IsFollowing, IsServed, IsServing}
use Rattle.sup_words.specs.Orders.{Command, IsOrder, LeadsTo}
use Rattle.sup_script.specs.declared.runs.answer.Status.{Status}
use Rattle.sup_words.specs.declared.words.Order.{Order}
use Rattle.sup_words.specs.declared.words.Order.TheVariants as order
use Rattle.sup_words.specs.Shown.{IsShownAs}
use Rattle.sup_words.specs.declared.words.Serve.{Serve}

module _ (kinds : Kinds) (command : Command) (remaining left contents held : Option (List ℕ)) (has_failed : Bool) (given : ℕ) (has_refused : Bool) (s : Status) where
  -- the order was done
  pub done_as : (o p : Order) → o ≡ p → LeadsTo kinds command (Ok o) → IsDone p remaining left contents held has_failed given has_refused s
      → IsReply kinds command remaining left contents held has_failed given has_refused s
  done_as o p same led done =
      inl (o, led.0, led.1, subst (λ (q : Order). IsDone q remaining left contents held has_failed given has_refused s) (sym same) done)

  -- the error was shown
  pub error_as : (e : Error) → LeadsTo kinds command (Err e) → left ≡ remaining → IsShownAs (kind_of e) contents held has_refused s
      → IsReply kinds command remaining left contents held has_failed given has_refused s
  error_as e led same shown = inr (kind_of e, led, same, shown)

-- the server served
pub serving_as : (kinds : Kinds) (command : Command) (has_failed has_refused : Bool) (s : Status) (o : Order) (how : Serve) → o ≡ order.Serve how
    → LeadsTo kinds command (Ok o) → IsServed has_failed has_refused s → IsServing kinds command has_failed has_refused s
serving_as kinds command has_failed has_refused s o how same led served = (how, led.0, subst (IsOrder command) same led.1, served)

-- the journal was followed
pub following_as : (kinds : Kinds) (command : Command) (remaining left : Option (List ℕ)) (s : Status) (o : Order) (path : Bor Text) → o ≡ order.Follow path
    → LeadsTo kinds command (Ok o) → IsFollowed remaining left s → IsFollowing kinds command remaining left s
following_as kinds command remaining left s o path same led followed = (path, led.0, subst (IsOrder command) same led.1, followed)
