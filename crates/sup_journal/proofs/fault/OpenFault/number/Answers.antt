-- The search is bound to what is named, so that a mutant is refused soon.
use Rattle.std.proofs.Common.{rules}
use Rattle.sup_journal.proofs.fault.OpenFault.number.Goals as goal

pub returns-in-OtherTemplate : goal.returns-in-OtherTemplate
returns-in-OtherTemplate c = search rules
