-- The numbers of the faults, which are the same wherever a fault is answered.
use Rattle.std.specs.Prelude.{ℕ}
use Rattle.sup_desk.specs.Faults.{update_fault_number}
use Rattle.sup_crew.specs.declared.fault.CrewFault.{CrewFault}
use Rattle.sup_crew.specs.declared.fault.CrewFault.TheVariants.{OutOfMemory, NoHandle, NoPlace}
use Rattle.sup_crew.specs.declared.fault.PoolFault.{PoolFault}
use Rattle.sup_crew.specs.declared.fault.PoolFault.TheVariants as pool

abbrev pub crew_fault_number : CrewFault → ℕ
crew_fault_number OutOfMemory = 1
crew_fault_number NoHandle = 5
crew_fault_number NoPlace = 6

-- what is out of range is so by the number of a bad template
abbrev pub pool_fault_number : PoolFault → ℕ
pool_fault_number pool.OutOfMemory = 1
pool_fault_number pool.BadWorkers = 7
pool_fault_number pool.BadRestarts = 7
pool_fault_number (pool.BadArgument place) = 7
pool_fault_number (pool.Stopped fault) = update_fault_number fault
