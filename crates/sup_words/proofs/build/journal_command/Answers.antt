-- The journal has an option more, and its file.
use Rattle.std.proofs.Common.{◌∙◌, ◌||◌, ap₂}
use Rattle.std.proofs.lemmas.Result.{IfOk-weaker}
use Rattle.clap.specs.Words.{with_rule}
use Rattle.sup_words.proofs.build.journal_command.Goals as goal

pub returns : goal.returns
returns c =
    let text = c.in_ok-text_command.ensures in
    let one = c.in_ok-arg.ensures.shape c.flag.ensures.local ∙ ap₂ with_rule text.0 c.flag.ensures.rule in
    let none = c.in_ok-arg.ensures.globals ∙ ap₂ (λ a b. a || b) text.1 c.flag.ensures.local in
    IfOk-weaker c.arg-2.result _ _ (λ r h. (
      h.shape c.file.ensures.local ∙ ap₂ with_rule one c.file.ensures.rule,
      h.globals ∙ ap₂ (λ a b. a || b) none c.file.ensures.local,
    )) c.arg-2.ensures
