-- The program has its five commands.
use Rattle.std.proofs.Common.{◌≡◌, ◌∙◌, true, ap, ap₂, codes}
use Rattle.std.proofs.lemmas.Result.{IfOk-weaker}
use Rattle.clap.specs.Simple.{app_of_fields, on_top}
use Rattle.clap.specs.Words.{App, Shape, app_of, new_app, with_subcommand}
use Rattle.sup_words.specs.Grammar.{bare_app}
use Rattle.sup_words.proofs.build.command.Goals as goal

abbrev top_of : App → Shape
top_of a = a.top

abbrev versioned : App → App
versioned = on_top (λ s. record s { has_version = true })

abbrev asking : App → App
asking = on_top (λ s. record s { subcommand_required = true })

pub returns : goal.returns
returns c =
    let named : app_of c.about.result ≡ new_app (codes "supload") =
    ap app_of_fields c.about.ensures ∙ (ap app_of_fields c.in_ok-bin_name.ensures.0 ∙ c.new.ensures.app) in
    let told : app_of c.after_help.result ≡ versioned (new_app (codes "supload")) =
    ap app_of_fields c.after_help.ensures ∙ (ap app_of_fields c.version.ensures ∙ ap versioned named) in
    let start : app_of c.subcommand_required.result ≡ bare_app = ap app_of_fields c.subcommand_required.ensures ∙ ap asking told in
    let script = c.in_ok-input_command.ensures in
    let replay = c.in_ok-input_command-2.ensures in
    let journal = c.in_ok-journal_command.ensures in
    let load = c.in_ok-load_command.ensures in
    let serve = c.in_ok-serve_command.ensures in
    let one = c.in_ok-subcommand.ensures.shape script.1 ∙ ap₂ with_subcommand start (ap top_of script.0) in
    let two = c.in_ok-subcommand-2.ensures.shape replay.1 ∙ ap₂ with_subcommand one (ap top_of replay.0) in
    let three = c.in_ok-subcommand-3.ensures.shape journal.1 ∙ ap₂ with_subcommand two (ap top_of journal.0) in
    let four = c.in_ok-subcommand-4.ensures.shape load.1 ∙ ap₂ with_subcommand three (ap top_of load.0) in
    IfOk-weaker c.subcommand-5.result _ _ (λ r h. h.shape serve.1 ∙ ap₂ with_subcommand four (ap top_of serve.0)) c.subcommand-5.ensures
