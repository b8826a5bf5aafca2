use Rattle.std.proofs.Common.{◌≡◌, ◌∷◌, take}
use Rattle.sup_live.specs.Callers.{used}
use Rattle.sup_live.specs.Wholes.{run_callers}
use Rattle.sup_live.proofs.report.list_callers.Given as goal

abbrev pub invariant-loop-client : goal.invariant-loop-client
invariant-loop-client g l = l.callers.items ≡ run_callers (used l.hands.handle l.hands.since ∷ take l.client-index l.clients)
