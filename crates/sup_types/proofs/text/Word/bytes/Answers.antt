-- The search is bound to what is named, so that a mutant is refused soon.
use Rattle.std.proofs.Common.{rules}
use Rattle.sup_types.proofs.text.Word.bytes.Goals as goal

pub returns-clause-value : goal.returns-clause-value
returns-clause-value c = search rules
