use Rattle.sup_format.proofs.Reading.ReadAgain.{only_memory}
use Rattle.sup_format.proofs.laws.spelled_is_read.Goals as goal

pub returns : goal.returns
returns c = only_memory
