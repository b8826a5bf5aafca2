-- The ground has the crew's template.
use Rattle.std.proofs.Common.{subst}
use Rattle.std.specs.Prelude.{IfOk}
use Rattle.sup_live.specs.Wholes.{IsCrewReport, length_of}
use Rattle.sup_live.proofs.builder.Crew.run_recorded.Goals as goal

pub returns-clause-report : goal.returns-clause-report
returns-clause-report g c =
    subst (λ t. IfOk c.run_named.result (λ r. IsCrewReport (g.B.Behaviour.may_end c.args.self.behaviour.now) t (length_of c.args.self.peers) r.0)) c.in_ok-ground.ensures c.run_named.ensures.report
