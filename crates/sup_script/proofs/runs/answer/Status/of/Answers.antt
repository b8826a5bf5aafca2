-- The search is bound to what is named, so that a mutant is refused soon.
use Rattle.std.proofs.Common.{rules}
use Rattle.sup_script.proofs.runs.answer.Status.of.Goals as goal

pub returns-in-BadTemplate : goal.returns-in-BadTemplate
returns-in-BadTemplate c = search rules
