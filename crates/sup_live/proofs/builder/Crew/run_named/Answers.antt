-- The crew does the same, and has the same peers.
use Rattle.std.proofs.Common.{ap, subst}
use Rattle.std.specs.Prelude.{IfOk}
use Rattle.sup_live.specs.Wholes.{IsCrewReport, length_of}
use Rattle.sup_live.proofs.builder.Crew.run_named.Goals as goal

pub returns-clause-report : goal.returns-clause-report
returns-clause-report g c =
    subst (λ n. IfOk c.run_recovered.result (λ r. IsCrewReport (g.B.Behaviour.may_end c.args.self.behaviour.now) g.N.Name.template n r.0)) (ap (λ p. length_of p) c.with_starter-starter.ensures.1)
    (subst (λ b. IfOk c.run_recovered.result (λ r. IsCrewReport (g.B.Behaviour.may_end b.now) g.N.Name.template (length_of c.with_starter-starter.result.1.peers) r.0)) c.with_starter-starter.ensures.0 c.run_recovered.ensures.report)
