-- What `drive` asks to be sent is what the bounds of the closure say.
use denote.Param.Send.{sendable}
use Rattle.sup_crew.proofs.run.fn.run_crew_with.fn.replace_with.scope.Goals as goal

pub drive-requires-send-N : goal.drive-requires-send-N
drive-requires-send-N g c _ _ = search sendable

pub drive-requires-send-S : goal.drive-requires-send-S
drive-requires-send-S g c _ _ = search sendable

pub drive-requires-send-P : goal.drive-requires-send-P
drive-requires-send-P g c _ _ = search sendable

pub drive-requires-send-J : goal.drive-requires-send-J
drive-requires-send-J g c _ _ = search sendable
