-- The numbers of the faults.
use Rattle.std.specs.Prelude.{ℕ}
use Rattle.sup_format.specs.declared.fault.Fault.{Fault}
use Rattle.sup_format.specs.declared.fault.Fault.TheVariants as fault

abbrev pub fault_number : Fault → ℕ
fault_number fault.OutOfMemory = 1
fault_number fault.BadTemplate = 7
fault_number fault.BadLine = 9
fault_number fault.ReadFault = 10
fault_number fault.WriteFault = 11
fault_number fault.TooLong = 12
