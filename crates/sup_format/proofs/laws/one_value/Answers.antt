use Rattle.sup_format.proofs.Reading.OneValue.{value_is_one}
use Rattle.sup_format.proofs.laws.one_value.Goals as goal

pub returns : goal.returns
returns c = value_is_one
