use Rattle.std.proofs.Common.{ap, arith}
use Rattle.sup_crew.proofs.Moves.{puts}
use Rattle.sup_crew.proofs.queue.Endpoint.put.Goals as goal

pub push_as-requires-clause-rule : goal.push_as-requires-clause-rule
push_as-requires-clause-rule g c n = let p = ap (λ v. v.permission.parts) c.self.view_is in let q = c.requires.1 in puts n _ _ _ (omega (arith, p, q))
