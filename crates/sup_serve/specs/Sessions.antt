-- For which reasons a session ends.
use Rattle.std.specs.Prelude.{Bool, true, false, codes}
use Rattle.std.specs.Str.{bytes_eq}
use Rattle.sup_types.specs.declared.reason.Reason.{Reason}
use Rattle.sup_types.specs.declared.reason.Reason.TheVariants.{Shutdown, Other}

-- it was asked to end, or it crashed
abbrev pub ends_session : Reason → Bool
ends_session Shutdown = true
ends_session (Other word) = bytes_eq word (codes "crash")
ends_session _ = false
