use Rattle.std.proofs.Common.{ap, sym, ◌∙◌, arith}
use Rattle.sup_crew.proofs.Handed.{taken, few, every}
use Rattle.sup_crew.proofs.Moves.{takes, learns}
use Rattle.sup_crew.proofs.queue.Endpoint.take.Goals as goal

pub pop_as-requires-clause-queue : goal.pop_as-requires-clause-queue
pop_as-requires-clause-queue g c = let q = ap (λ v. v.queue) c.self.view_is ∙ c.requires.0 ∙ sym c.jobs.view_is in ((ap (λ l. l.web) q, ap (λ l. l.heap) q), c.self.invariant.0, c.self.invariant.1)

pub pop_as-requires-clause-rule : goal.pop_as-requires-clause-rule
pop_as-requires-clause-rule g c = let p = ap (λ v. v.permission.parts) c.self.view_is in let q = c.requires.1 in (takes _ _ (omega (arith, p, q)), learns _ _)

pub invariant_of-self : goal.invariant_of-self
invariant_of-self g c = (c.pop_as.ensures.queue.0.1, c.pop_as.ensures.queue.0.2)

pub returns-clause-job : goal.returns-clause-job
returns-clause-job g c =
    let q = c.pop_as.ensures.queue.0.0 in
    taken c.pop_as.result c.args.jobs.now _ c.args.self.now (record { queue = record { web = c.pop_as.new.pass.web; heap = c.pop_as.new.pass.heap }; permission = c.pop_as.new.pass.me.view.client }) _ _ _ c.self.view_is c.requires.0
    ((λ i. record { web = q.0 i; heap = q.1 i }) ∙ c.jobs.view_is) c.pop_as.ensures.rule

pub returns-clause-few : goal.returns-clause-few
returns-clause-few g c = few c.pop_as.result _ c.args.self.now (record { queue = record { web = c.pop_as.new.pass.web; heap = c.pop_as.new.pass.heap }; permission = c.pop_as.new.pass.me.view.client }) _ _ _ c.self.view_is c.pop_as.ensures.rule

pub returns-clause-end : goal.returns-clause-end
returns-clause-end g c = every c.pop_as.result _ c.args.self.now _ _ c.self.view_is c.pop_as.ensures.rule
