-- Why a fault came.
use Rattle.std.specs.Prelude.{◌≡◌, ℕ, ◌<◌, Bool, true}
use Rattle.sup_format.specs.declared.fault.Fault.{Fault}
use Rattle.sup_format.specs.declared.fault.Fault.TheVariants as fault

-- what a line can have
abbrev pub IsLineFault : Fault → Type 0
IsLineFault fault.OutOfMemory = Unit {0}
IsLineFault fault.BadTemplate = Unit {0}
IsLineFault fault.BadLine = Unit {0}
IsLineFault fault.ReadFault = ⊥
IsLineFault fault.WriteFault = ⊥
IsLineFault fault.TooLong = ⊥

-- what a history text can have
abbrev pub IsTextFault : Fault → Type 0
IsTextFault fault.OutOfMemory = ⊥
IsTextFault fault.BadTemplate = Unit {0}
IsTextFault fault.BadLine = Unit {0}
IsTextFault fault.ReadFault = ⊥
IsTextFault fault.WriteFault = ⊥
IsTextFault fault.TooLong = ⊥

-- what the answering of lines can have: a fault of writing only if the writer refused
abbrev pub HasLineCause : Bool → Fault → Type 0
HasLineCause has_refused fault.OutOfMemory = Unit {0}
HasLineCause has_refused fault.BadTemplate = Unit {0}
HasLineCause has_refused fault.BadLine = Unit {0}
HasLineCause has_refused fault.ReadFault = ⊥
HasLineCause has_refused fault.WriteFault = has_refused ≡ true
HasLineCause has_refused fault.TooLong = ⊥

-- what the reading of a whole text can have
abbrev pub HasReadCause : Bool → ℕ → Fault → Type 0
HasReadCause has_failed given fault.OutOfMemory = Unit {0}
HasReadCause has_failed given fault.BadTemplate = ⊥
HasReadCause has_failed given fault.BadLine = ⊥
HasReadCause has_failed given fault.ReadFault = has_failed ≡ true
HasReadCause has_failed given fault.WriteFault = ⊥
HasReadCause has_failed given fault.TooLong = 16777216 < given

-- what a run can have: a fault of reading only if the reader failed, one of writing only if the writer refused, and
-- too long a text only if more than 2^24 bytes came
abbrev pub HasCause : Bool → ℕ → Bool → Fault → Type 0
HasCause has_failed given has_refused fault.OutOfMemory = Unit {0}
HasCause has_failed given has_refused fault.BadTemplate = Unit {0}
HasCause has_failed given has_refused fault.BadLine = Unit {0}
HasCause has_failed given has_refused fault.ReadFault = has_failed ≡ true
HasCause has_failed given has_refused fault.WriteFault = has_refused ≡ true
HasCause has_failed given has_refused fault.TooLong = 16777216 < given
