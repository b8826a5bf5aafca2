-- For which reasons a child ends.
use Rattle.std.specs.Prelude.{◌≡◌, Bool, true}
use Rattle.sup_types.specs.declared.reason.Reason.{Reason}
use Rattle.sup_live.specs.declared.behaviour.End.{End}

-- a child ends for a reason for which it may
abbrev pub EndsBy : {C O : Type 0} → (C → End O → Type 0) → (Reason → Bool) → C → Type 0
EndsBy {O = O} gives may_end child = (end : End O) → gives child end → may_end end.reason ≡ true
