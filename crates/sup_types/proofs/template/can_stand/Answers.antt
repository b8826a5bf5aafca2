-- The search is bound to what is named, so that a mutant is refused soon.
use Rattle.std.proofs.Common.{rules}
use Rattle.sup_types.proofs.template.can_stand.Goals as goal

pub returns-in_default : goal.returns-in_default
returns-in_default c = search rules
