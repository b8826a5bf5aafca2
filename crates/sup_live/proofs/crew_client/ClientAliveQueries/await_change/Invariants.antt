use Rattle.sup_live.specs.Clients.{HasAsked}
use Rattle.sup_live.proofs.crew_client.ClientAliveQueries.await_change.Given as goal

abbrev pub invariant-loop : goal.invariant-loop
invariant-loop g l = HasAsked l.fn.self.knows l.self.knows
