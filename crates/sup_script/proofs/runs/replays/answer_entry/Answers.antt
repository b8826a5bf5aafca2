-- The search is bound to what is named, so that a mutant is refused soon.
use Rattle.std.proofs.Common.{rules}
use Rattle.sup_script.proofs.runs.replays.answer_entry.Goals as goal

pub returns-in_err-reserve-clause-same_bytes : goal.returns-in_err-reserve-clause-same_bytes
returns-in_err-reserve-clause-same_bytes g c = search rules

pub returns-clause-reply : goal.returns-clause-reply
returns-clause-reply g c = search rules
