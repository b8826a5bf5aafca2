-- The search is bound to what is named, so that a mutant is refused soon.
use Rattle.std.proofs.Common.{rules}
use Rattle.sup_types.proofs.text.Word.new.Goals as goal

pub returns-then-eq : goal.returns-then-eq
returns-then-eq c = search rules

pub invariant_of-result : goal.invariant_of-result
invariant_of-result c = search rules

pub returns : goal.returns
returns c = search rules
