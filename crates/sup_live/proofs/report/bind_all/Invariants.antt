-- What is bound, and what is still to be bound.
use Rattle.std.proofs.Common.{◌≡◌, ◌∷◌, ◌++◌}
use Rattle.std.specs.Vec.Iter.{into_iter_items}
use Rattle.sup_live.specs.Callers.{knowledge_of}
use Rattle.sup_live.proofs.report.bind_all.Given as goal

abbrev pub invariant-loop-client : goal.invariant-loop-client
invariant-loop-client g l = l.handles.items ++ knowledge_of (into_iter_items l.client-iterator) ≡ l.fn.driver ∷ knowledge_of l.fn.clients.items

abbrev pub invariant-loop-caller : goal.invariant-loop-caller
invariant-loop-caller g l = l.handles.items ++ into_iter_items l.caller-iterator ≡ l.fn.driver ∷ (knowledge_of l.fn.clients.items ++ l.fn.spare.items)
