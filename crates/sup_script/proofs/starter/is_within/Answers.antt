use Rattle.sup_script.proofs.Gaps.{within_is, within_not}
use Rattle.sup_script.proofs.starter.is_within.Goals as goal

pub returns-then-from-moment : goal.returns-then-from-moment
returns-then-from-moment c = within_is c.args.from.now c.args.to.now c.in-Some-Some.from c.in-Some-Some.to c.args.moment c.in-Some-Some.ensures.0 c.in-Some-Some.ensures'.0 c.in-Some-Some.ensures.1 c.in-Some-Some.ensures'.1 c.if-from-moment.true

pub returns-else-from-moment : goal.returns-else-from-moment
returns-else-from-moment c = within_not c.args.from.now c.args.to.now c.in-Some-Some.from c.in-Some-Some.to c.args.moment c.in-Some-Some.ensures.0 c.in-Some-Some.ensures'.0 c.in-Some-Some.ensures.1 c.in-Some-Some.ensures'.1 c.if-from-moment.false
