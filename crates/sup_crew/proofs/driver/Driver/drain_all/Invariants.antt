use Rattle.sup_crew.specs.Drivers.{IsAtWork, IsSameDriver, GoesOn}
use Rattle.sup_crew.proofs.driver.Driver.drain_all.Given as goal

abbrev pub invariant-loop : goal.invariant-loop
invariant-loop g l = record {
  same : IsSameDriver l.fn.self l.self;
  at_work : IsAtWork l.crew.jobs l.crew.inbox.id l.self;
  drained : GoesOn g.N.Name.template g.N.Name.press l.crew.plan.moment l.fn.self l.self;
}
