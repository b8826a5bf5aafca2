-- The search is bound to what is named, so that a mutant is refused soon.
use Rattle.std.proofs.Common.{rules}
use Rattle.sup_types.proofs.template.Restart.restarts_after.Goals as goal

pub returns-in-Temporary : goal.returns-in-Temporary
returns-in-Temporary c = search rules
