-- The text may be in a file.
use Rattle.std.proofs.Common.{◌∙◌, ◌||◌, ap₂}
use Rattle.std.proofs.lemmas.Result.{IfOk-weaker}
use Rattle.clap.specs.Words.{with_rule}
use Rattle.sup_words.proofs.build.input_command.Goals as goal

pub returns : goal.returns
returns c =
    let text = c.in_ok-text_command.ensures in
    IfOk-weaker c.arg.result _ _ (λ r h. (
      h.shape c.file.ensures.local ∙ ap₂ with_rule text.0 c.file.ensures.rule,
      h.globals ∙ ap₂ (λ a b. a || b) text.1 c.file.ensures.local,
    )) c.arg.ensures
