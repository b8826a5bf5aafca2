-- The search is bound to what is named, so that a mutant is refused soon.
use Rattle.std.proofs.Common.{rules}
use Rattle.sup_serve.proofs.session.Session.hear.Goals as goal

pub returns-in-Crash : goal.returns-in-Crash
returns-in-Crash c = search rules
