use Rattle.std.proofs.Common.{sym, ap, ◌∙◌, arith}
use Rattle.sup_format.specs.Reading.Words.{words_left}
use Rattle.sup_format.proofs.Reading.Commands.{first_same}
use Rattle.sup_format.proofs.Reading.Entries.{too_large_a_code}
use Rattle.sup_format.proofs.read.cursor.Cursor.code.Goals as goal

pub returns-then-number-from : goal.returns-then-number-from
returns-then-number-from c = λ code more fits e.
    too_large_a_code c.next_word.result.0.now c.in_ok-number.number code c.in_ok-number.ensures.0 (omega (arith, c.if-number-from.true, c.from.ensures)) fits c.in_ok-number.ensures.1
    (first_same _ _ _ _ (sym (ap words_left c.in_ok-self.was ∙ c.next_word.ensures) ∙ e))
