-- The exit statuses of a load and of a server.
use Rattle.std.specs.Prelude.{ℕ, Result, Ok, Err}
use Rattle.sup_crew.specs.Faults.{crew_fault_number}
use Rattle.sup_desk.specs.Faults.{desk_fault_number, handle_fault_number, update_fault_number}
use Rattle.sup_journal.specs.Faults.{open_fault_number}
use Rattle.sup_load.specs.declared.fault.LoadFault.{LoadFault}
use Rattle.sup_load.specs.declared.fault.LoadFault.TheVariants as load
use Rattle.sup_load.specs.declared.fault.StopFault.{StopFault}
use Rattle.sup_load.specs.declared.fault.StopFault.TheVariants as stop
use Rattle.sup_serve.specs.declared.fault.ServeFault.{ServeFault}
use Rattle.sup_serve.specs.declared.fault.ServeFault.TheVariants as serve
use Rattle.sup_script.specs.declared.runs.answer.Status.{Status}
use Rattle.sup_script.specs.declared.runs.answer.Status.TheVariants as status

-- the numbers of the faults, which are the same wherever a fault is answered
abbrev pub stop_fault_number : StopFault → ℕ
stop_fault_number (stop.OutOfMemory fault) = 1
stop_fault_number (stop.BadTemplate fault) = 7
stop_fault_number (stop.Desk fault) = desk_fault_number fault
stop_fault_number (stop.Handle fault) = handle_fault_number fault
stop_fault_number (stop.Crew fault) = crew_fault_number fault
stop_fault_number (stop.Update fault) = update_fault_number fault
stop_fault_number stop.Gone = 4
stop_fault_number (stop.Journal fault) = open_fault_number fault

abbrev pub load_fault_number : LoadFault → ℕ
load_fault_number (load.Stopped fault) = stop_fault_number fault
load_fault_number load.WriteFault = 11

abbrev pub status_of_stop_fault : StopFault → Status
status_of_stop_fault (stop.OutOfMemory fault) = status.OtherFault
status_of_stop_fault (stop.BadTemplate fault) = status.BadInput
status_of_stop_fault (stop.Desk fault) = status.OtherFault
status_of_stop_fault (stop.Handle fault) = status.OtherFault
status_of_stop_fault (stop.Crew fault) = status.OtherFault
status_of_stop_fault (stop.Update fault) = status.OtherFault
status_of_stop_fault stop.Gone = status.OtherFault
status_of_stop_fault (stop.Journal fault) = status.OtherFault

abbrev pub status_of_load_fault : LoadFault → Status
status_of_load_fault (load.Stopped fault) = status_of_stop_fault fault
status_of_load_fault load.WriteFault = status.Failed

-- the status of a server that stopped with the fault of this number
abbrev pub status_of_serve_fault : ServeFault → Status
status_of_serve_fault serve.OutOfMemory = status.OtherFault
status_of_serve_fault (serve.Crew fault) = status.OtherFault
status_of_serve_fault serve.Read = status.Failed
status_of_serve_fault serve.Write = status.Failed
status_of_serve_fault (serve.Journal fault) = status.OtherFault
status_of_serve_fault (serve.NotAnew fault) = status.OtherFault
status_of_serve_fault serve.GaveUp = status.GaveUp

-- how a load ended
abbrev pub status_of_load : Result (Unit {0}) LoadFault → Status
status_of_load (Ok u) = status.Done
status_of_load (Err e) = status_of_load_fault e
