-- The numbers of a server's faults.
use Rattle.std.specs.Prelude.{ℕ}
use Rattle.sup_journal.specs.Faults.{open_fault_number}
use Rattle.sup_live.specs.Faults.{live_crew_fault_number}
use Rattle.sup_serve.specs.declared.fault.ServeFault.{ServeFault}
use Rattle.sup_serve.specs.declared.fault.ServeFault.TheVariants as fault

-- the numbers are the same wherever a fault is answered
abbrev pub serve_fault_number : ServeFault → ℕ
serve_fault_number fault.OutOfMemory = 1
serve_fault_number (fault.Crew met) = live_crew_fault_number met
serve_fault_number fault.Read = 10
serve_fault_number fault.Write = 11
serve_fault_number (fault.Journal met) = 13
serve_fault_number (fault.NotAnew met) = open_fault_number met
serve_fault_number fault.GaveUp = 17
