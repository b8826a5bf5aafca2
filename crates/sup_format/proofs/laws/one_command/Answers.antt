use Rattle.sup_format.proofs.Reading.OneCommand.{one_meaning}
use Rattle.sup_format.proofs.laws.one_command.Goals as goal

pub returns : goal.returns
returns c = one_meaning
