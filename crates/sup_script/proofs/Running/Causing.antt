-- Why a fault came, by what is known of the part that had it.
use Rattle.std.proofs.Common.{ℕ, Bool, Result, Ok, Err}
use Rattle.std.specs.Prelude.{IfErr}
use Rattle.sup_format.specs.declared.fault.Fault.{Fault}
use Rattle.sup_format.specs.declared.fault.Fault.TheVariants as fault
use Rattle.sup_format.specs.declared.fault.ScriptFault.{ScriptFault}
use Rattle.sup_format.specs.Causes.{IsLineFault, HasLineCause, HasCause}

-- a line's fault
pub line_cause : (has_refused : Bool) (f : Fault) → IsLineFault f → HasLineCause has_refused f
line_cause has_refused fault.OutOfMemory is = tt
line_cause has_refused fault.BadTemplate is = tt
line_cause has_refused fault.BadLine is = tt
line_cause has_refused fault.ReadFault is = absurd is
line_cause has_refused fault.WriteFault is = absurd is
line_cause has_refused fault.TooLong is = absurd is

-- one of the answering of lines
pub lines_cause : (has_failed : Bool) (given : ℕ) (has_refused : Bool) (f : Fault) → HasLineCause has_refused f → HasCause has_failed given has_refused f
lines_cause has_failed given has_refused fault.OutOfMemory h = tt
lines_cause has_failed given has_refused fault.BadTemplate h = tt
lines_cause has_failed given has_refused fault.BadLine h = tt
lines_cause has_failed given has_refused fault.ReadFault h = absurd h
lines_cause has_failed given has_refused fault.WriteFault h = h
lines_cause has_failed given has_refused fault.TooLong h = absurd h

pub lines_causes : (has_failed : Bool) (given : ℕ) (has_refused : Bool) (r : Result (Unit {0}) ScriptFault) → IfErr r (λ e. HasLineCause has_refused e.fault) → IfErr r (λ e. HasCause has_failed given has_refused e.fault)
lines_causes has_failed given has_refused (Ok u) h = h
lines_causes has_failed given has_refused (Err e) h = lines_cause has_failed given has_refused e.fault h
