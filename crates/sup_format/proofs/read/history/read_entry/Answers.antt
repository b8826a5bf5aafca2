use Rattle.sup_format.proofs.Reading.Commands.{tail_is}
use Rattle.sup_format.proofs.read.history.read_entry.Goals as goal

pub returns-in_err-serial : goal.returns-in_err-serial
returns-in_err-serial c = rw c.from_residual-in_err-serial.ensures (λ e fits is. c.in_err-serial.ensures e.serial _ fits.serial (tail_is _ _ _ _ _ c.in_ok-handle.ensures is))

pub returns-in_err-moment : goal.returns-in_err-moment
returns-in_err-moment c = rw c.from_residual-in_err-moment.ensures (λ e fits is. c.in_err-moment.ensures e.moment _ fits.moment (tail_is _ _ _ _ _ c.in_ok-serial.ensures (tail_is _ _ _ _ _ c.in_ok-handle.ensures is)))
