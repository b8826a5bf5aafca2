-- What an order that answers a text comes to, for both programs.
use Rattle.std.proofs.Common.{◌≡◌, ◌⊎◌, ℕ, Bool, List, Option, None, Some, refl, sym, ap, subst, codes, inl, inr}
use Rattle.std.specs.Borrow.{Bor}
use Rattle.std.specs.Prelude.{Ok, is_some}
use Rattle.clap.specs.Kinds.{Kinds}
use Rattle.clap.specs.Walk.{Row, Text, first_of}
use Rattle.sup_script.specs.Running.Answers.{IsInputAnswered, IsReplayAnswered, IsScriptAnswered, IsUnnamed}
use Rattle.sup_script.specs.declared.runs.answer.Detail.{Detail}
use Rattle.sup_script.specs.declared.runs.answer.Detail.TheVariants as detail
use Rattle.sup_script.specs.declared.runs.answer.Input.{Input}
use Rattle.sup_script.specs.declared.runs.answer.Input.TheVariants as input
use Rattle.sup_script.specs.declared.runs.answer.Status.{Status}
use Rattle.sup_words.specs.Orders.{Command, HasFile, IsOrder, LeadsTo}
use Rattle.sup_words.specs.declared.words.Order.{Order}
use Rattle.sup_words.specs.declared.words.Order.TheVariants as order

module _ (i : Input) (d : Detail) (o : Order) (is : o ≡ order.Text i d) where
  same_input : (j : Input) (e : Detail) → o ≡ order.Text j e → i ≡ j
  same_input j e led = cc

  module _ (remaining left contents held : Option (List ℕ)) (has_failed : Bool) (given : ℕ) (has_refused : Bool) (s : Status) (answered : IsInputAnswered i remaining left contents held has_failed given has_refused s) where
    -- the word `script` alone
    pub script_of : o ≡ order.Text (input.Script None) detail.Number → IsScriptAnswered remaining left contents held has_failed given has_refused s
    script_of led = subst (λ (j : Input). IsInputAnswered j remaining left contents held has_failed given has_refused s) (same_input (input.Script None) detail.Number led) answered

    -- the word `replay` alone
    pub replay_of : o ≡ order.Text (input.History None) detail.Number → IsReplayAnswered remaining left contents held has_failed given has_refused s
    replay_of led = subst (λ (j : Input). IsInputAnswered j remaining left contents held has_failed given has_refused s) (same_input (input.History None) detail.Number led) answered

has_file : (command : Command) (name : Text) (rows : List Row) (path : Text) → command ≡ Some (name, rows) → Some path ≡ first_of (codes "file") rows → HasFile command
has_file command name rows path is given = (name, rows, is, ap is_some (sym given))

-- a failure has its cause in the input or the output, or a file is named
file_cause : (command : Command) (i : Input) (d : Detail) (failed refused : Type 0) → IsOrder command (order.Text i d) → (IsUnnamed i → failed ⊎ refused) → failed ⊎ (refused ⊎ HasFile command)
file_cause command (input.Script (Some path)) d failed refused is cause = inr (inr (has_file command (codes "script") is.0 path.now is.1.0 is.1.1.0))
file_cause command (input.History (Some path)) d failed refused is cause = inr (inr (has_file command (codes "replay") is.0 path.now is.1.0 is.1.1.0))
file_cause command (input.Journal path) d failed refused is cause = elim is.1.1 [
  | inl dash ↦ inr (inr (has_file command (codes "journal") is.0 (codes "-") is.1.0 (sym dash.0)))
  | inr plain ↦ inr (inr (has_file command (codes "journal") is.0 path.now is.1.0 (sym plain.0)))
]
file_cause command (input.Script None) d failed refused is cause = elim (cause refl) [ inl a ↦ inl a | inr b ↦ inr (inl b) ]
file_cause command (input.History None) d failed refused is cause = elim (cause refl) [ inl a ↦ inl a | inr b ↦ inr (inl b) ]

-- a journal that is followed is a file
pub follow_cause : (kinds : Kinds) (command : Command) (path : Bor Text) (o : Order) → o ≡ order.Follow path → LeadsTo kinds command (Ok o) → HasFile command
follow_cause kinds command path o is led =
    let order = subst (IsOrder command) is led.1 in
    elim order.2 [
      | inl dash ↦ has_file command (codes "journal") order.0 (codes "-") order.1 (sym dash.0)
      | inr plain ↦ has_file command (codes "journal") order.0 path.now order.1 (sym plain.0)
    ]

pub text_cause : (kinds : Kinds) (command : Command) (i : Input) (d : Detail) (o : Order) → o ≡ order.Text i d → LeadsTo kinds command (Ok o) → (failed refused : Type 0) → (IsUnnamed i → failed ⊎ refused) → failed ⊎ (refused ⊎ HasFile command)
text_cause kinds command i d o is led failed refused cause = file_cause command i d failed refused (subst (IsOrder command) is led.1) cause
