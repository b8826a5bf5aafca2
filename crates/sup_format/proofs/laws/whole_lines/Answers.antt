use Rattle.sup_format.proofs.Reading.WholeLines.{firsts_spell}
use Rattle.sup_format.proofs.laws.whole_lines.Goals as goal

pub returns : goal.returns
returns c = firsts_spell
