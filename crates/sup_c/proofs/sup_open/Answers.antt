-- What is wrong: the first line, how many entries there are to be, or memory.
use Rattle.std.proofs.Common.{rules, ◌≡◌, ◌≤◌, ◌^◌, inr, refl}
use Rattle.sup_format.specs.declared.fault.Fault.TheVariants as fault
use Rattle.sup_format.specs.Faults.{fault_number}
use Rattle.sup_c.proofs.Opened.{refuses, memory, stops_first}
use Rattle.sup_c.proofs.sup_open.Goals as goal

pub returns-in-Err-clause-answer : goal.returns-in-Err-clause-answer
returns-in-Err-clause-answer c =
    let e = c.in-Err.fault in let told = c.in-Err.ensures in
    let number : c.from.result ≡ fault_number e.fault = search rules in
    refuses c.args.held.now c.args.text.now c.args.entries _ e.fault (search rules) number (stops_first c.args.text.now c.args.entries e.line e.fault told.fault told.line told.begun)

pub returns-then-not-contains-clause-answer : goal.returns-then-not-contains-clause-answer
returns-then-not-contains-clause-answer c =
    let out : 1 ≤ c.args.entries → c.args.entries ≤ 2 ^ 62 → ⊥ = search rules in
    refuses c.args.held.now c.args.text.now c.args.entries 7 fault.BadTemplate (search rules) refl (inr (record { read = c.in-Ok.template; rest = c.in-Ok.field-0-1.now; begun = c.in-Ok.ensures.begun; out = out }))

pub returns-in_default-clause-answer : goal.returns-in_default-clause-answer
returns-in_default-clause-answer c =
    let low : 1 ≤ c.args.entries = search rules in
    let high : c.args.entries ≤ 2 ^ 62 = search rules in
    refuses c.args.held.now c.args.text.now c.args.entries 1 fault.OutOfMemory (search rules) refl (memory c.args.text.now c.in-Ok.field-0-1.now c.in-Ok.template c.args.entries c.in-Ok.ensures.begun low high)

pub returns-in_default-new-clause-answer : goal.returns-in_default-new-clause-answer
returns-in_default-new-clause-answer c =
    let low : 1 ≤ c.args.entries = search rules in
    let high : c.args.entries ≤ 2 ^ 62 = search rules in
    refuses c.args.held.now c.args.text.now c.args.entries 1 fault.OutOfMemory (search rules) refl (memory c.args.text.now c.in-Ok.field-0-1.now c.in-Ok.template c.args.entries c.in-Ok.ensures.begun low high)

pub returns-clause-template : goal.returns-clause-template
returns-clause-template c = λ _. record { read = c.in-Ok.template; rest = c.in-Ok.field-0-1.now; begun = c.in-Ok.ensures.begun; same = search rules; entries_are = search rules }
