-- A history text whose first line has a fault.
use Rattle.std.proofs.Common.{ℕ, List, [], refl, subst, arith, Err}
use Rattle.sup_format.specs.declared.fault.Fault.{Fault}
use Rattle.sup_format.specs.declared.fault.Fault.TheVariants as fault
use Rattle.sup_format.specs.Causes.{IsTextFault}
use Rattle.sup_format.specs.Reading.Words.{Lacks, IsSplit}
use Rattle.sup_format.specs.Reading.Headers.{IsNoFirst, HasFirst}
use Rattle.sup_format.specs.Reading.History.{AreFirstWords}
use Rattle.sup_format.specs.Reading.HistoryReading.{IsFaultAt, HistoryStops}
use Rattle.sup_format.proofs.Reading.Entries.{lacks_split, line_same}

-- the first line has a fault
abbrev first_fault : (text : List ℕ) → IsFaultAt text 1
first_fault text = record { front = []; rest = text; parts = refl; full = λ some. absurd (omega arith); right = tt; number_is = refl }

-- no line is ended
pub no_first_line : (text : List ℕ) → Lacks 10 text → HistoryStops text 1 fault.BadLine
no_first_line text lacks = (first_fault text, λ line more split. absurd (lacks_split 10 text line more lacks split))

pub first_stops : (text first after : List ℕ) (f : Fault) → IsSplit 10 text first after → HasFirst AreFirstWords first (Err f) → HistoryStops text 1 f
first_stops text first after fault.OutOfMemory split h = absurd h
first_stops text first after fault.BadTemplate split h = (first_fault text, refl, first, after, split, h)
first_stops text first after fault.BadLine split h = (first_fault text, λ line more other. subst (IsNoFirst AreFirstWords) (line_same text first after line more split other) h)
first_stops text first after fault.ReadFault split h = absurd h
first_stops text first after fault.WriteFault split h = absurd h
first_stops text first after fault.TooLong split h = absurd h

pub first_fault_kind : (first : List ℕ) (f : Fault) → HasFirst AreFirstWords first (Err f) → IsTextFault f
first_fault_kind first fault.OutOfMemory h = absurd h
first_fault_kind first fault.BadTemplate h = tt
first_fault_kind first fault.BadLine h = tt
first_fault_kind first fault.ReadFault h = absurd h
first_fault_kind first fault.WriteFault h = absurd h
first_fault_kind first fault.TooLong h = absurd h
