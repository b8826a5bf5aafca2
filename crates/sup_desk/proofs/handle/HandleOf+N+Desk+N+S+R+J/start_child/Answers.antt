-- It is an update with this operation.
use Rattle.sup_desk.proofs.handle.HandleOf+N+Desk+N+S+R+J.start_child.Goals as goal

pub returns-clause-result : goal.returns-clause-result
returns-clause-result g c = c.update.ensures.result
