-- The search is bound to what is named, so that a mutant is refused soon.
use Rattle.std.proofs.Common.{rules}
use Rattle.sup_serve.proofs.serving.conclude.Goals as goal

pub returns-then-has_refused-clause-read : goal.returns-then-has_refused-clause-read
returns-then-has_refused-clause-read g c = search rules

pub returns-in-Ok-clause-ok : goal.returns-in-Ok-clause-ok
returns-in-Ok-clause-ok g c = search rules
