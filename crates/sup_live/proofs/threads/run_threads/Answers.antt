-- What the closure asks to be sent is what the bounds of the function say.
use denote.Param.Send.{sendable}
use Rattle.sup_live.proofs.threads.run_threads.Goals as goal

pub scoped-joined-requires : goal.scoped-joined-requires
scoped-joined-requires g c = record { at = λ _. (search sendable, search sendable) }
