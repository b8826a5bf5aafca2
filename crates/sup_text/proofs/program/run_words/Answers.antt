-- What the words lead to is answered, or shown.
use Rattle.std.proofs.Common.{◌≡◌, ◌∙◌, refl, sym, inl, inr, map}
use Rattle.sup_script.specs.declared.runs.answer.Detail.{Detail}
use Rattle.sup_script.specs.declared.runs.answer.Input.{Input}
use Rattle.sup_words.specs.Orders.{command_at, kinds_at}
use Rattle.sup_words.specs.declared.words.Order.{Order}
use Rattle.sup_words.specs.declared.words.Order.TheVariants as order
use Rattle.sup_words.specs.TextLaws.{follow_cause, replay_of, script_of, text_cause}
use Rattle.sup_words.proofs.Unread.{replay_unread, script_unread}
use Rattle.clap.specs.Values.{kind_of}
use Rattle.sup_text.proofs.program.run_words.Goals as goal

pub returns-in-Ok-Text-clause-words : goal.returns-in-Ok-Text-clause-words
returns-in-Ok-Text-clause-words g c =
    let led = c.in-Ok-Text.ensures.words in
    inl (c.in-Ok-Text.field-0, led.0, led.1, rw c.in-Ok-Text.field-0-is c.answer_input.ensures.answered)

pub returns-in-Ok-Text-clause-script : goal.returns-in-Ok-Text-clause-script
returns-in-Ok-Text-clause-script g c = λ name words.
    script_of c.in-Ok-Text.input c.in-Ok-Text.detail c.in-Ok-Text.field-0 c.in-Ok-Text.field-0-is _ _ _ _ _ _ _ _ c.answer_input.ensures.answered (c.in-Ok-Text.ensures.script name words)

pub returns-in-Ok-Text-clause-replay : goal.returns-in-Ok-Text-clause-replay
returns-in-Ok-Text-clause-replay g c = λ name words.
    replay_of c.in-Ok-Text.input c.in-Ok-Text.detail c.in-Ok-Text.field-0 c.in-Ok-Text.field-0-is _ _ _ _ _ _ _ _ c.answer_input.ensures.answered (c.in-Ok-Text.ensures.replay name words)

pub returns-in-Ok-Text-clause-cause : goal.returns-in-Ok-Text-clause-cause
returns-in-Ok-Text-clause-cause g c =
    let words = map g.S.AsStr.text c.args.words.now in
    λ failed. text_cause (kinds_at words) (command_at words) c.in-Ok-Text.input c.in-Ok-Text.detail c.in-Ok-Text.field-0 c.in-Ok-Text.field-0-is c.in-Ok-Text.ensures.words _ _ (λ unnamed. c.answer_input.ensures.cause unnamed failed)

pub returns-in-Err-clause-words : goal.returns-in-Err-clause-words
returns-in-Err-clause-words g c = inr (kind_of c.in-Err.error, c.in-Err.ensures.words, refl, c.show.ensures.kind)

pub returns-in-Ok-Follow-clause-words : goal.returns-in-Ok-Follow-clause-words
returns-in-Ok-Follow-clause-words g c =
    let led = c.in-Ok-Follow.ensures.words in
    inl (c.in-Ok-Follow.field-0, led.0, led.1, rw c.in-Ok-Follow.field-0-is (refl, c.follow_journal.ensures))

pub returns-in-Ok-Follow-clause-cause : goal.returns-in-Ok-Follow-clause-cause
returns-in-Ok-Follow-clause-cause g c =
    let words = map g.S.AsStr.text c.args.words.now in
    λ failed. inr (inr (follow_cause (kinds_at words) (command_at words) c.in-Ok-Follow.path c.in-Ok-Follow.field-0 c.in-Ok-Follow.field-0-is c.in-Ok-Follow.ensures.words))

another : {i : Input} {d : Detail} {o p : Order} → o ≡ p → (p ≡ order.Text i d → ⊥) → o ≡ order.Text i d → ⊥
another same other is = other (sym same ∙ is)

pub returns-in-Ok-Follow-clause-script : goal.returns-in-Ok-Follow-clause-script
returns-in-Ok-Follow-clause-script g c = λ name words. absurd (another c.in-Ok-Follow.field-0-is (λ e. cc) (c.in-Ok-Follow.ensures.script name words))

pub returns-in-Ok-Follow-clause-replay : goal.returns-in-Ok-Follow-clause-replay
returns-in-Ok-Follow-clause-replay g c = λ name words. absurd (another c.in-Ok-Follow.field-0-is (λ e. cc) (c.in-Ok-Follow.ensures.replay name words))

pub returns-in-Err-clause-script : goal.returns-in-Err-clause-script
returns-in-Err-clause-script g c = λ name words.
    let none = c.show.ensures.kind.memory (c.in-Err.ensures.script name words) in
    script_unread _ _ _ _ _ _ c.show.result none.0 none.1

pub returns-in-Err-clause-replay : goal.returns-in-Err-clause-replay
returns-in-Err-clause-replay g c = λ name words.
    let none = c.show.ensures.kind.memory (c.in-Err.ensures.replay name words) in
    replay_unread _ _ _ _ _ _ c.show.result none.0 none.1
