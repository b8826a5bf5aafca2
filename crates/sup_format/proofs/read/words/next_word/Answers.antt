use Rattle.sup_format.proofs.Reading.Cuts.{words-split, words-one}
use Rattle.sup_format.proofs.read.words.next_word.Goals as goal

pub returns-in-Some : goal.returns-in-Some
returns-in-Some c = words-split c.args.line.now c.in-Some.word.now c.in-Some.rest.now c.in-Some.ensures

pub returns-in-None : goal.returns-in-None
returns-in-None c = words-one c.args.line.now c.in-None.ensures
