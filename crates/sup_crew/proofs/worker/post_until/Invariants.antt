use Rattle.std.proofs.Common.{◌≡◌}
use Rattle.sup_crew.proofs.worker.post_until.Given as goal

abbrev pub invariant-loop : goal.invariant-loop
invariant-loop g l = l.poster ≡ l.initial.poster
