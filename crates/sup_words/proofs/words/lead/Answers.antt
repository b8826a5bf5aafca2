-- The grammar is of the kind whose matches and kinds of error clap says.
use Rattle.std.proofs.Common.{◌≡◌, ◌∙◌, rules, sym, ap, subst, map}
use Rattle.clap.specs.Faults.{fault_of, is_simple_and_free}
use Rattle.clap.specs.Kinds.{HasKind}
use Rattle.clap.specs.Simple.{App, subcommand_of, is_simple}
use Rattle.clap.specs.Words.{app_of, subcommand_rows_of}
use Rattle.sup_words.specs.Grammar.{supload_app}
use Rattle.sup_words.specs.Orders.{command_at, kinds_at}
use Rattle.sup_words.proofs.Leads.{grammar_is_free, grammar_is_simple, leads, leads_nowhere, refused_by}
use Rattle.sup_words.proofs.words.lead.Goals as goal

pub returns-in-Some : goal.returns-in-Some
unfolding kinds_at command_at
returns-in-Some g c =
    let words = map g.S.AsStr.text c.args.words.now in
    let app : app_of c.in_ok-command.field-0 ≡ supload_app = search rules in
    let none = c.in_ok-matches.ensures.kinds (ap is_simple_and_free app ∙ grammar_is_free) in
    let rows = (c.in_ok-matches.ensures.matches (ap is_simple app ∙ grammar_is_simple)).1 in
    leads (fault_of supload_app words) (subcommand_of supload_app words) (subcommand_rows_of c.in_ok-matches.matches) c.in-Some.order
    (ap (λ a. fault_of a words) (sym app) ∙ none) (rows ∙ ap (λ a. subcommand_of a words) app) c.in-Some.ensures

pub returns : goal.returns
unfolding kinds_at command_at
returns g c =
    let words = map g.S.AsStr.text c.args.words.now in
    let app : app_of c.in_ok-command.field-0 ≡ supload_app = search rules in
    let none = c.in_ok-matches.ensures.kinds (ap is_simple_and_free app ∙ grammar_is_free) in
    let rows = (c.in_ok-matches.ensures.matches (ap is_simple app ∙ grammar_is_simple)).1 in
    leads_nowhere (fault_of supload_app words) (subcommand_of supload_app words) (subcommand_rows_of c.in_ok-matches.matches) c.refused.result
    (ap (λ a. fault_of a words) (sym app) ∙ none) (rows ∙ ap (λ a. subcommand_of a words) app) c.in-None.ensures c.refused.ensures

pub returns-in_err-matches : goal.returns-in_err-matches
unfolding kinds_at command_at
returns-in_err-matches g c =
    let words = map g.S.AsStr.text c.args.words.now in
    let app : app_of c.in_ok-command.field-0 ≡ supload_app = search rules in
    let fails = c.in_err-matches.ensures.kinds (ap is_simple_and_free app ∙ grammar_is_free) in
    let from = c.from_residual-in_err-matches.ensures in
    let error = c.in_err-matches.field-0.0 in
    refused_by (kinds_at words) (command_at words) error c.from_residual-in_err-matches.result
    (subst (λ (a : App). HasKind (fault_of a words) error) app fails) from.0 from.1
