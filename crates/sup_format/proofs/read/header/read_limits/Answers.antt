use Rattle.sup_format.proofs.Reading.Commands.{tail_is}
use Rattle.sup_format.proofs.read.header.read_limits.Goals as goal

pub returns-in_err-number-2 : goal.returns-in_err-number-2
returns-in_err-number-2 c = rw c.from_residual-in_err-number-2.ensures (λ p more fits e.
    c.in_err-number-2.ensures p.period _ fits.1 (tail_is _ _ _ _ _ c.in_ok-number.ensures (tail_is _ _ _ _ _ c.in_ok-value-2.ensures.value (tail_is _ _ _ _ _ c.in_ok-value.ensures.value e))))

pub returns-in_err-number-3 : goal.returns-in_err-number-3
returns-in_err-number-3 c = rw c.from_residual-in_err-number-3.ensures (λ p more fits e.
    c.in_err-number-3.ensures p.max _ fits.2 (tail_is _ _ _ _ _ c.in_ok-number-2.ensures (tail_is _ _ _ _ _ c.in_ok-number.ensures (tail_is _ _ _ _ _ c.in_ok-value-2.ensures.value (tail_is _ _ _ _ _ c.in_ok-value.ensures.value e)))))
