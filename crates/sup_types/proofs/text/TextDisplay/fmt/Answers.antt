-- The search is bound to what is named, so that a mutant is refused soon.
use Rattle.std.proofs.Common.{rules}
use Rattle.sup_types.proofs.text.TextDisplay.fmt.Goals as goal

pub returns-clause-writes : goal.returns-clause-writes
returns-clause-writes g c = search rules

pub returns-clause-styled : goal.returns-clause-styled
returns-clause-styled g c = search rules
