-- A closed handle that is not opened answers what is wrong.
use Rattle.std.proofs.Common.{◌≡◌, ℕ, List, false, inl, inr, subst, arith, ◌≤◌, ◌^◌, [], refl, rules}
use Rattle.sup_types.specs.declared.template.Template.{Template}
use Rattle.sup_format.specs.declared.fault.Fault.{Fault}
use Rattle.sup_format.specs.declared.fault.Fault.TheVariants as fault
use Rattle.sup_format.specs.Causes.{IsTextFault}
use Rattle.sup_format.specs.Faults.{fault_number}
use Rattle.sup_format.specs.Reading.HistoryReading.{HistoryStops, IsReadTo}
use Rattle.sup_c.specs.declared.held.Held.{Held}
use Rattle.sup_c.specs.Spelled.{IsUnfit}
use Rattle.sup_c.specs.Answers.{AnswersOpening}

no_handle : (f : Fault) → fault_number f ≡ 15 → ⊥
no_handle fault.OutOfMemory e = absurd (omega (arith, e))
no_handle fault.BadTemplate e = absurd (omega (arith, e))
no_handle fault.BadLine e = absurd (omega (arith, e))
no_handle fault.ReadFault e = absurd (omega (arith, e))
no_handle fault.WriteFault e = absurd (omega (arith, e))
no_handle fault.TooLong e = absurd (omega (arith, e))

pub refuses : (held : Held) (text : List ℕ) (entries answer : ℕ) (f : Fault) → held.is_open ≡ false → answer ≡ fault_number f → IsUnfit text entries f → AnswersOpening held text entries answer
refuses held text entries answer f shut number unfit =
    let other = no_handle f in record { open_already = search (rules, other); closed = λ _. inr (f, number, unfit) }

abbrev with_entries : (t : Template) (n : ℕ) → 1 ≤ n → n ≤ 2 ^ 62 → Template
with_entries t n low high = let r = t.in_range in record t { entries = n; in_range = (r.0, r.1, r.2, r.3, r.4, low, high) }

pub memory : (text rest : List ℕ) (t : Template) (n : ℕ) → IsReadTo text rest t [] 2 → 1 ≤ n → n ≤ 2 ^ 62 → IsUnfit text n fault.OutOfMemory
memory text rest t n begun low high = (with_entries t n low high, record { read = t; rest = rest; begun = begun; same = refl; entries_are = refl })

stopped : (text : List ℕ) (entries : ℕ) (f : Fault) → IsTextFault f → HistoryStops text 1 f → IsUnfit text entries f
stopped text entries fault.OutOfMemory cause stops = absurd cause
stopped text entries fault.BadTemplate cause stops = inl stops
stopped text entries fault.BadLine cause stops = stops
stopped text entries fault.ReadFault cause stops = absurd cause
stopped text entries fault.WriteFault cause stops = absurd cause
stopped text entries fault.TooLong cause stops = absurd cause

pub stops_first : (text : List ℕ) (entries line : ℕ) (f : Fault) → IsTextFault f → line ≡ 1 → HistoryStops text line f → IsUnfit text entries f
stops_first text entries line f cause first stops = stopped text entries f cause (subst (λ n. HistoryStops text n f) first stops)
