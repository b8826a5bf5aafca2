-- The server has its three options.
use Rattle.std.proofs.Common.{◌≡◌, ◌∙◌, ◌||◌, Bool, false, rules, ap₂, codes}
use Rattle.std.proofs.lemmas.Result.{IfOk-weaker}
use Rattle.clap.specs.Words.{app_of, new_app, with_rule}
use Rattle.clap.specs.declared.builder.command.Command.{Command}
use Rattle.clap.specs.declared.builder.command.Command.TheViews.{out-Command as fields_of}
use Rattle.sup_words.specs.Grammar.{status_rule}
use Rattle.sup_words.proofs.build.serve_command.Goals as goal

abbrev has_globals : Command → Bool
has_globals c = (fields_of c).has_globals

pub returns : goal.returns
returns c =
    let start : app_of c.after_help.result ≡ new_app (codes "serve") = search rules in
    let none : has_globals c.after_help.result ≡ false = search rules in
    let one : app_of c.in_ok-arg.field-0 ≡ with_rule (new_app (codes "serve")) status_rule =
    c.in_ok-arg.ensures.shape c.flag.ensures.local ∙ ap₂ with_rule start c.flag.ensures.rule in
    let none1 = c.in_ok-arg.ensures.globals ∙ ap₂ (λ a b. a || b) none c.flag.ensures.local in
    let two = c.in_ok-arg-2.ensures.shape c.journal.ensures.local ∙ ap₂ with_rule one c.journal.ensures.rule in
    let none2 = c.in_ok-arg-2.ensures.globals ∙ ap₂ (λ a b. a || b) none1 c.journal.ensures.local in
    IfOk-weaker c.arg-3.result _ _ (λ r h. (
      h.shape c.flag-2.ensures.local ∙ ap₂ with_rule two c.flag-2.ensures.rule,
      h.globals ∙ ap₂ (λ a b. a || b) none2 c.flag-2.ensures.local,
    )) c.arg-3.ensures
