-- A load without its numbers is no order.
use Rattle.std.proofs.Common.{◌≡◌, ◌∙◌, Some, ap, sym, codes}
use Rattle.clap.specs.Words.{found_of, rows_of, subcommand_name_of, subcommand_rows_of}
use Rattle.sup_words.proofs.Leads.{found_is, is_none, no_order}
use Rattle.sup_words.proofs.words.read_matches.Goals as goal

pub returns-in_err-read_load-in-load-default : goal.returns-in_err-read_load-in-load-default
returns-in_err-read_load-in-load-default c =
    let rows = rows_of (found_of c.in_ok-words.field-0.1.now) in
    let named : Some (codes "load") ≡ subcommand_name_of c.args.matches.now = ap Some (sym c.in-load-default.is-load-0) ∙ c.in_ok-words.ensures.name in
    let is = found_is c.args.matches.now (codes "load") rows named c.in_ok-words.ensures.rows in
    is_none (subcommand_rows_of c.args.matches.now) c.from_residual-in_err-read_load-in-load-default.result c.from_residual-in_err-read_load-in-load-default.ensures
    (no_order (subcommand_rows_of c.args.matches.now) rows is c.in_err-read_load-in-load-default.ensures)
