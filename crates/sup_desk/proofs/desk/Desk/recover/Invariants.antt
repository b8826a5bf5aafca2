use Rattle.std.proofs.Common.{◌≡◌, take}
use Rattle.sup_desk.proofs.desk.Desk.recover.Given as goal

-- the entries so far are entered, and there may be as many handles as before
abbrev pub invariant-loop-entry : goal.invariant-loop-entry
invariant-loop-entry g l = (l.recovery.history ≡ take l.entry-index l.entries) × (l.recovery.handles ≡ l.initial.recovery.handles)
