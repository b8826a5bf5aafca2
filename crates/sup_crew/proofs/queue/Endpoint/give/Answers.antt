use Rattle.std.proofs.Common.{ap, arith}
use Rattle.sup_crew.proofs.Moves.{gives}
use Rattle.sup_crew.proofs.queue.Endpoint.give.Goals as goal

pub another-requires-clause-rule : goal.another-requires-clause-rule
another-requires-clause-rule g c = let p = ap (λ v. v.permission.parts) c.self.view_is in let q = c.requires.1 in gives _ _ (omega (arith, p, q))
