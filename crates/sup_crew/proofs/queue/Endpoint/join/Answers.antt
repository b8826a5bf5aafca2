use Rattle.std.proofs.Common.{ap, arith}
use Rattle.sup_crew.proofs.Moves.{joins}
use Rattle.sup_crew.proofs.queue.Endpoint.join.Goals as goal

pub absorb-requires-clause-rule : goal.absorb-requires-clause-rule
absorb-requires-clause-rule g c = let p = ap (λ v. v.permission.parts) c.self.view_is in let q = c.requires.2 in joins _ _ _ _ (omega (arith, p, q))
