use Rattle.std.proofs.Common.{rules, ap}
use Rattle.sup_inbox.proofs.Moves.{pops}
use Rattle.sup_inbox.proofs.inbox.Taker.take.Goals as goal

pub pop_as-requires-clause-rule : goal.pop_as-requires-clause-rule
pop_as-requires-clause-rule g c = (pops _ _ (ap (λ v. v.takes) c.self.invariant.1), λ items views h at. tt)

pub returns-clause-taken : goal.returns-clause-taken
returns-clause-taken g c = search rules
