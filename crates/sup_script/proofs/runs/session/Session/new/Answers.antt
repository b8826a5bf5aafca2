-- The search is bound to what is named, so that a mutant is refused soon.
use Rattle.std.proofs.Common.{rules}
use Rattle.sup_script.proofs.runs.session.Session.new.Goals as goal

pub returns-clause-next : goal.returns-clause-next
returns-clause-next g c = search rules
