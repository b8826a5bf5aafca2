-- How a load that has a report ends.
use Rattle.std.specs.Prelude.{Option, None, Some, Result, Ok, Err}
use Rattle.sup_log.specs.declared.faults.Gone.{Gone}
use Rattle.sup_desk.specs.declared.faults.UpdateFault.{UpdateFault}
use Rattle.sup_load.specs.declared.fault.LoadFault.{LoadFault}
use Rattle.sup_load.specs.declared.fault.LoadFault.TheVariants.{Stopped}
use Rattle.sup_load.specs.declared.fault.StopFault.{StopFault}
use Rattle.sup_load.specs.declared.fault.StopFault.TheVariants as stop

-- with its fault, where it has one
abbrev pub end_of : Option StopFault → Result (Unit {0}) LoadFault
end_of None = Ok tt
end_of (Some fault) = Err (Stopped fault)

-- the fault that stopped the run, else Gone where a reader was refused
abbrev pub fault_behind : Option UpdateFault → Result (Unit {0}) Gone → Option StopFault
fault_behind (Some fault) asked = Some (stop.Update fault)
fault_behind None (Err gone) = Some stop.Gone
fault_behind None (Ok u) = None
