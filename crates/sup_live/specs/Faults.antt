-- The numbers of a crew's faults, which are the same wherever a fault is answered.
use Rattle.std.specs.Prelude.{ℕ}
use Rattle.sup_journal.specs.Faults.{open_fault_number}
use Rattle.sup_desk.specs.Faults.{recover_fault_number}
use Rattle.sup_live.specs.declared.plan.LiveFault.{LiveFault}
use Rattle.sup_live.specs.declared.plan.LiveFault.TheVariants.{OutOfMemory, NoThread, NoHandle, NoPlace, BadWorkers, History, Journal}

abbrev pub live_crew_fault_number : LiveFault → ℕ
live_crew_fault_number OutOfMemory = 1
live_crew_fault_number NoThread = 1
live_crew_fault_number NoHandle = 5
live_crew_fault_number NoPlace = 6
live_crew_fault_number BadWorkers = 7
live_crew_fault_number (History fault) = recover_fault_number fault
live_crew_fault_number (Journal fault) = open_fault_number fault
