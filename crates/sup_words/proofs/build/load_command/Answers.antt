-- The load has its six options.
use Rattle.std.proofs.Common.{◌≡◌, ◌∙◌, ◌||◌, Bool, false, ap, ap₂, codes}
use Rattle.std.proofs.lemmas.Result.{IfOk-weaker}
use Rattle.clap.specs.Simple.{app_of_fields}
use Rattle.clap.specs.Words.{app_of, new_app, with_rule}
use Rattle.clap.specs.declared.builder.command.Command.{Command}
use Rattle.clap.specs.declared.builder.command.Command.TheViews.{out-Command as fields_of}
use Rattle.sup_words.specs.Grammar.{number_rule}
use Rattle.sup_words.proofs.build.load_command.Goals as goal

abbrev has_globals : Command → Bool
has_globals c = (fields_of c).has_globals

pub returns : goal.returns
returns c =
    let start : app_of c.after_help.result ≡ new_app (codes "load") =
    ap app_of_fields c.after_help.ensures ∙ (ap app_of_fields c.long_about.ensures ∙ (ap app_of_fields c.about.ensures ∙ c.new.ensures.app)) in
    let none : has_globals c.after_help.result ≡ false =
    ap (λ f. f.has_globals) c.after_help.ensures ∙ (ap (λ f. f.has_globals) c.long_about.ensures ∙ (ap (λ f. f.has_globals) c.about.ensures ∙ c.new.ensures.local)) in
    let one : app_of c.in_ok-arg.field-0 ≡ with_rule (new_app (codes "load")) (number_rule (codes "workers") 1 64) =
    c.in_ok-arg.ensures.shape c.number.ensures.local ∙ ap₂ with_rule start c.number.ensures.rule in
    let two = c.in_ok-arg-2.ensures.shape c.number-2.ensures.local ∙ ap₂ with_rule one c.number-2.ensures.rule in
    let three = c.in_ok-arg-3.ensures.shape c.number-3.ensures.local ∙ ap₂ with_rule two c.number-3.ensures.rule in
    let none1 = c.in_ok-arg.ensures.globals ∙ ap₂ (λ a b. a || b) none c.number.ensures.local in
    let none2 = c.in_ok-arg-2.ensures.globals ∙ ap₂ (λ a b. a || b) none1 c.number-2.ensures.local in
    let none3 = c.in_ok-arg-3.ensures.globals ∙ ap₂ (λ a b. a || b) none2 c.number-3.ensures.local in
    let four = c.in_ok-arg-4.ensures.shape c.number-4.ensures.local ∙ ap₂ with_rule three c.number-4.ensures.rule in
    let none4 = c.in_ok-arg-4.ensures.globals ∙ ap₂ (λ a b. a || b) none3 c.number-4.ensures.local in
    let five = c.in_ok-arg-5.ensures.shape c.journal.ensures.local ∙ ap₂ with_rule four c.journal.ensures.rule in
    let none5 = c.in_ok-arg-5.ensures.globals ∙ ap₂ (λ a b. a || b) none4 c.journal.ensures.local in
    IfOk-weaker c.arg-6.result _ _ (λ r h. (
      h.shape c.flag.ensures.local ∙ ap₂ with_rule five c.flag.ensures.rule,
      h.globals ∙ ap₂ (λ a b. a || b) none5 c.flag.ensures.local,
    )) c.arg-6.ensures
