use Rattle.sup_format.specs.LineLaws.{lines-split, lines-one}
use Rattle.sup_format.proofs.read.lines.first_line.Goals as goal

pub returns-in-Some-clause-lines : goal.returns-in-Some-clause-lines
returns-in-Some-clause-lines c = lines-split c.args.text.now c.in-Some.line.now c.in-Some.rest.now c.in-Some.ensures

pub returns-in-None-clause-lines : goal.returns-in-None-clause-lines
returns-in-None-clause-lines c = lines-one c.args.text.now c.requires c.in-None.ensures
