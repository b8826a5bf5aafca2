use Rattle.std.proofs.Common.{refl}
use Rattle.sup_format.proofs.Reading.Commands.{no_command}
use Rattle.sup_format.proofs.read.command.read_command.Goals as goal

pub returns-in_err-value : goal.returns-in_err-value
returns-in_err-value c = rw c.from_residual.ensures (no_command _ c.in_default.ensures.value (rw (c.in_default.ensures.stays refl) at c.in_err-value.ensures.value))
