use Rattle.sup_format.proofs.Reading.OneValue.{header_is_one}
use Rattle.sup_format.proofs.laws.one_header.Goals as goal

pub returns : goal.returns
returns c = header_is_one
