use Rattle.sup_format.proofs.Reading.HistoryLines.{header_spells}
use Rattle.sup_format.proofs.write.history_text.append_header.Goals as goal

pub returns-clause-spelled : goal.returns-clause-spelled
returns-clause-spelled g c = header_spells c.args.template.now
