-- The numbers of the faults, which are the same wherever a fault is answered.
use Rattle.std.specs.Prelude.{ℕ}
use Rattle.sup_desk.specs.declared.faults.UpdateFault.{UpdateFault}
use Rattle.sup_desk.specs.declared.faults.UpdateFault.TheVariants as update
use Rattle.sup_desk.specs.declared.faults.TicketFault.{TicketFault}
use Rattle.sup_desk.specs.declared.faults.TicketFault.TheVariants as ticket
use Rattle.sup_desk.specs.declared.faults.QueryFault.{QueryFault}
use Rattle.sup_desk.specs.declared.faults.QueryFault.TheVariants as query
use Rattle.sup_desk.specs.declared.faults.HandleFault.{HandleFault}
use Rattle.sup_desk.specs.declared.faults.HandleFault.TheVariants as handle
use Rattle.sup_desk.specs.declared.recovery.RecoverFault.{RecoverFault}
use Rattle.sup_desk.specs.declared.recovery.RecoverFault.TheVariants as recover
use Rattle.sup_desk.specs.declared.faults.DeskFault.{DeskFault}
use Rattle.sup_desk.specs.declared.faults.DeskFault.TheVariants as desk

-- a journal that breaks off
abbrev pub journal_fault_number : ℕ
journal_fault_number = 13

abbrev pub update_fault_number : UpdateFault → ℕ
update_fault_number update.OutOfMemory = 1
update_fault_number update.HistoryFull = 2
update_fault_number update.Gone = 4
update_fault_number (update.Journal fault) = journal_fault_number

abbrev pub ticket_fault_number : TicketFault → ℕ
ticket_fault_number ticket.Split = 3
ticket_fault_number ticket.Gone = 4

abbrev pub query_fault_number : QueryFault → ℕ
query_fault_number query.OutOfMemory = 1
query_fault_number query.Gone = 4

abbrev pub handle_fault_number : HandleFault → ℕ
handle_fault_number handle.NoHandle = 5
handle_fault_number handle.NoPlace = 6

abbrev pub recover_fault_number : RecoverFault → ℕ
recover_fault_number recover.OutOfMemory = 1
recover_fault_number recover.HistoryFull = 2
recover_fault_number recover.NoHandle = 5
recover_fault_number recover.BadTemplate = 7

abbrev pub desk_fault_number : DeskFault → ℕ
desk_fault_number desk.OutOfMemory = 1
desk_fault_number desk.BadTemplate = 7
