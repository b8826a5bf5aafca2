-- The numbers of a journal's faults.
use Rattle.std.specs.Prelude.{ℕ}
use Rattle.sup_format.specs.Faults.{fault_number}
use Rattle.sup_desk.specs.Faults.{recover_fault_number}
use Rattle.sup_journal.specs.declared.fault.OpenFault.{OpenFault}
use Rattle.sup_journal.specs.declared.fault.OpenFault.TheVariants as opening

abbrev pub open_fault_number : OpenFault → ℕ
open_fault_number opening.OutOfMemory = 1
open_fault_number opening.InUse = 14
open_fault_number (opening.File cause) = 14
open_fault_number (opening.Cut cause) = 14
open_fault_number (opening.WrongLine fault) = fault_number fault.fault
open_fault_number (opening.OtherTemplate part there here) = 7
open_fault_number opening.NoJournal = 7
open_fault_number (opening.Refused fault) = 13
open_fault_number (opening.Desk fault) = recover_fault_number fault
