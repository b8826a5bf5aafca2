use Rattle.sup_format.proofs.Reading.Entries.{no_answer}
use Rattle.sup_format.proofs.read.history.read_answer.Goals as goal

pub returns-in_err-value : goal.returns-in_err-value
returns-in_err-value c = rw c.from_residual.ensures (λ a fits e. no_answer _ c.in_err-value.ensures.value a e)
