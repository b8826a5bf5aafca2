-- What the words lead to is done, or shown.
use Rattle.std.proofs.Common.{◌≡◌, ◌∙◌, refl, subst, sym, inl, inr, map}
use Rattle.std.specs.Prelude.{Ok}
use Rattle.sup_words.specs.Orders.{IsLoadOf, command_at, kinds_at}
use Rattle.sup_script.specs.declared.runs.answer.Detail.{Detail}
use Rattle.sup_script.specs.declared.runs.answer.Input.{Input}
use Rattle.sup_words.specs.declared.words.Order.{Order}
use Rattle.sup_words.specs.declared.words.Order.TheVariants as order
use Rattle.sup_words.specs.TextLaws.{follow_cause, replay_of, script_of, text_cause}
use Rattle.sup_words.proofs.Unread.{replay_unread, script_unread}
use Rattle.sup_load.proofs.Replies.{done_as, error_as, following_as, serving_as}
use Rattle.sup_load.proofs.program.run_words.Goals as goal

pub returns-in-Ok-Text-clause-words : goal.returns-in-Ok-Text-clause-words
returns-in-Ok-Text-clause-words g c =
    let words = map g.S.AsStr.text c.args.words.now in
    done_as (kinds_at words) (command_at words) _ _ _ _ _ _ _ c.answer_input.result
    c.in-Ok-Text.field-0 (order.Text c.in-Ok-Text.input c.in-Ok-Text.detail) c.in-Ok-Text.field-0-is c.in-Ok-Text.ensures.words c.answer_input.ensures.answered

pub returns-in-Ok-Text-clause-script : goal.returns-in-Ok-Text-clause-script
returns-in-Ok-Text-clause-script g c = λ name words.
    script_of c.in-Ok-Text.input c.in-Ok-Text.detail c.in-Ok-Text.field-0 c.in-Ok-Text.field-0-is _ _ _ _ _ _ _ _ c.answer_input.ensures.answered (c.in-Ok-Text.ensures.script name words)

pub returns-in-Ok-Text-clause-replay : goal.returns-in-Ok-Text-clause-replay
returns-in-Ok-Text-clause-replay g c = λ name words.
    replay_of c.in-Ok-Text.input c.in-Ok-Text.detail c.in-Ok-Text.field-0 c.in-Ok-Text.field-0-is _ _ _ _ _ _ _ _ c.answer_input.ensures.answered (c.in-Ok-Text.ensures.replay name words)

pub returns-in-Ok-Load-clause-words : goal.returns-in-Ok-Load-clause-words
returns-in-Ok-Load-clause-words g c =
    let words = map g.S.AsStr.text c.args.words.now in
    done_as (kinds_at words) (command_at words) _ _ _ _ _ _ _ c.answer_load.result
    c.in-Ok-Load.field-0 (order.Load c.in-Ok-Load.load c.in-Ok-Load.journal c.in-Ok-Load.detail) c.in-Ok-Load.field-0-is c.in-Ok-Load.ensures.words (refl, c.answer_load.ensures.loaded)

pub returns-in-Ok-Serve-clause-words : goal.returns-in-Ok-Serve-clause-words
returns-in-Ok-Serve-clause-words g c =
    let words = map g.S.AsStr.text c.args.words.now in
    done_as (kinds_at words) (command_at words) _ _ _ _ _ _ _ c.answer_serve.result
    c.in-Ok-Serve.field-0 (order.Serve c.in-Ok-Serve.how) c.in-Ok-Serve.field-0-is c.in-Ok-Serve.ensures.words c.answer_serve.ensures

pub returns-in-Err-clause-words : goal.returns-in-Err-clause-words
returns-in-Err-clause-words g c =
    let words = map g.S.AsStr.text c.args.words.now in
    error_as (kinds_at words) (command_at words) _ _ _ _ _ _ _ c.show.result c.in-Err.error c.in-Err.ensures.words refl c.show.ensures.kind

pub returns-in-Ok-Text-clause-one : goal.returns-in-Ok-Text-clause-one
returns-in-Ok-Text-clause-one g c = inl (inl (c.in-Ok-Text.input, c.answer_input.ensures.answered))

pub returns-in-Ok-Text-clause-cause : goal.returns-in-Ok-Text-clause-cause
returns-in-Ok-Text-clause-cause g c =
    let words = map g.S.AsStr.text c.args.words.now in
    λ failed. text_cause (kinds_at words) (command_at words) c.in-Ok-Text.input c.in-Ok-Text.detail c.in-Ok-Text.field-0 c.in-Ok-Text.field-0-is c.in-Ok-Text.ensures.words _ _ (λ unnamed. c.answer_input.ensures.cause unnamed failed)

pub returns-in-Ok-Load-clause-one : goal.returns-in-Ok-Load-clause-one
returns-in-Ok-Load-clause-one g c = inl (inr (refl, inl c.answer_load.ensures.loaded))

pub returns-in-Ok-Serve-clause-one : goal.returns-in-Ok-Serve-clause-one
returns-in-Ok-Serve-clause-one g c =
    let words = map g.S.AsStr.text c.args.words.now in
    inr (inl (serving_as (kinds_at words) (command_at words) _ _ c.answer_serve.result
    c.in-Ok-Serve.field-0 c.in-Ok-Serve.how c.in-Ok-Serve.field-0-is c.in-Ok-Serve.ensures.words c.answer_serve.ensures))

pub returns-in-Err-clause-one : goal.returns-in-Err-clause-one
returns-in-Err-clause-one g c = inl (inr (refl, inr c.show.ensures.shown))

pub returns-in-Ok-Text-clause-load : goal.returns-in-Ok-Text-clause-load
returns-in-Ok-Text-clause-load g c = λ name given w n r t whole words.
    absurd (subst (λ (o : Order). IsLoadOf w n r t (Ok o)) c.in-Ok-Text.field-0-is (c.in-Ok-Text.ensures.load name given w n r t whole words))

pub returns-in-Ok-Serve-clause-load : goal.returns-in-Ok-Serve-clause-load
returns-in-Ok-Serve-clause-load g c = λ name given w n r t whole words.
    absurd (subst (λ (o : Order). IsLoadOf w n r t (Ok o)) c.in-Ok-Serve.field-0-is (c.in-Ok-Serve.ensures.load name given w n r t whole words))

pub returns-in-Ok-Load-clause-load : goal.returns-in-Ok-Load-clause-load
returns-in-Ok-Load-clause-load g c = λ name given w n r t whole words. (refl, inl c.answer_load.ensures.loaded)

pub returns-in-Err-clause-load : goal.returns-in-Err-clause-load
returns-in-Err-clause-load g c = λ name given w n r t whole words. (refl, inr (c.show.ensures.kind.memory (c.in-Err.ensures.load name given w n r t whole words)))

pub returns-in-Ok-Follow-clause-words : goal.returns-in-Ok-Follow-clause-words
returns-in-Ok-Follow-clause-words g c =
    let words = map g.S.AsStr.text c.args.words.now in
    done_as (kinds_at words) (command_at words) _ _ _ _ _ _ _ c.follow_journal.result
    c.in-Ok-Follow.field-0 (order.Follow c.in-Ok-Follow.path) c.in-Ok-Follow.field-0-is c.in-Ok-Follow.ensures.words (record { alone = refl; stopped = c.follow_journal.ensures })

pub returns-in-Ok-Follow-clause-one : goal.returns-in-Ok-Follow-clause-one
returns-in-Ok-Follow-clause-one g c =
    let words = map g.S.AsStr.text c.args.words.now in
    inr (inr (following_as (kinds_at words) (command_at words) _ _ c.follow_journal.result
    c.in-Ok-Follow.field-0 c.in-Ok-Follow.path c.in-Ok-Follow.field-0-is c.in-Ok-Follow.ensures.words (record { alone = refl; stopped = c.follow_journal.ensures })))

pub returns-in-Ok-Follow-clause-load : goal.returns-in-Ok-Follow-clause-load
returns-in-Ok-Follow-clause-load g c = λ name given w n r t whole words.
    absurd (subst (λ (o : Order). IsLoadOf w n r t (Ok o)) c.in-Ok-Follow.field-0-is (c.in-Ok-Follow.ensures.load name given w n r t whole words))

pub returns-in-Ok-Follow-clause-cause : goal.returns-in-Ok-Follow-clause-cause
returns-in-Ok-Follow-clause-cause g c =
    let words = map g.S.AsStr.text c.args.words.now in
    λ failed. inr (inr (follow_cause (kinds_at words) (command_at words) c.in-Ok-Follow.path c.in-Ok-Follow.field-0 c.in-Ok-Follow.field-0-is c.in-Ok-Follow.ensures.words))

-- ---- the words `script` and `replay` alone

another : {i : Input} {d : Detail} {o p : Order} → o ≡ p → (p ≡ order.Text i d → ⊥) → o ≡ order.Text i d → ⊥
another same other is = other (sym same ∙ is)

pub returns-in-Ok-Follow-clause-script : goal.returns-in-Ok-Follow-clause-script
returns-in-Ok-Follow-clause-script g c = λ name words. absurd (another c.in-Ok-Follow.field-0-is (λ e. cc) (c.in-Ok-Follow.ensures.script name words))

pub returns-in-Ok-Follow-clause-replay : goal.returns-in-Ok-Follow-clause-replay
returns-in-Ok-Follow-clause-replay g c = λ name words. absurd (another c.in-Ok-Follow.field-0-is (λ e. cc) (c.in-Ok-Follow.ensures.replay name words))

pub returns-in-Ok-Load-clause-script : goal.returns-in-Ok-Load-clause-script
returns-in-Ok-Load-clause-script g c = λ name words. absurd (another c.in-Ok-Load.field-0-is (λ e. cc) (c.in-Ok-Load.ensures.script name words))

pub returns-in-Ok-Load-clause-replay : goal.returns-in-Ok-Load-clause-replay
returns-in-Ok-Load-clause-replay g c = λ name words. absurd (another c.in-Ok-Load.field-0-is (λ e. cc) (c.in-Ok-Load.ensures.replay name words))

pub returns-in-Ok-Serve-clause-script : goal.returns-in-Ok-Serve-clause-script
returns-in-Ok-Serve-clause-script g c = λ name words. absurd (another c.in-Ok-Serve.field-0-is (λ e. cc) (c.in-Ok-Serve.ensures.script name words))

pub returns-in-Ok-Serve-clause-replay : goal.returns-in-Ok-Serve-clause-replay
returns-in-Ok-Serve-clause-replay g c = λ name words. absurd (another c.in-Ok-Serve.field-0-is (λ e. cc) (c.in-Ok-Serve.ensures.replay name words))

pub returns-in-Err-clause-script : goal.returns-in-Err-clause-script
returns-in-Err-clause-script g c = λ name words.
    let none = c.show.ensures.kind.memory (c.in-Err.ensures.script name words) in
    script_unread _ _ _ _ _ _ c.show.result none.0 none.1

pub returns-in-Err-clause-replay : goal.returns-in-Err-clause-replay
returns-in-Err-clause-replay g c = λ name words.
    let none = c.show.ensures.kind.memory (c.in-Err.ensures.replay name words) in
    replay_unread _ _ _ _ _ _ c.show.result none.0 none.1
