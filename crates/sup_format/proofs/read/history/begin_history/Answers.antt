use Rattle.std.proofs.Common.{Ok, Err, subst}
use Rattle.sup_format.specs.Reading.Headers.{HasParts}
use Rattle.sup_format.specs.Reading.History.{AreFirstWords}
use Rattle.sup_format.proofs.Reading.Firsts.{first_of}
use Rattle.sup_format.proofs.Reading.Histories.{no_first_line, first_stops, first_fault_kind}
use Rattle.sup_format.specs.HistorySteps.{read_first_line}
use Rattle.sup_format.proofs.read.history.begin_history.Goals as goal

pub returns-in_default-clause-begun : goal.returns-in_default-clause-begun
returns-in_default-clause-begun c = rw c.in_line.ensures (no_first_line c.args.text.now c.in_default.ensures)

pub returns-in-Err-clause-begun : goal.returns-in-Err-clause-begun
returns-in-Err-clause-begun c =
    let parts = subst (λ ws. HasParts AreFirstWords ws c.read_first_parts.result) c.new.ensures c.read_first_parts.ensures in
    let refused = first_of AreFirstWords c.in-Some.first.now c.read_first_parts.result (Err c.in-Err.fault) parts c.in-Err.ensures in
    rw c.in_line-in-Err.ensures (first_stops c.args.text.now c.in-Some.first.now c.in-Some.after.now c.in-Err.fault c.in-Some.ensures refused)

pub returns-in-Ok-clause-begun : goal.returns-in-Ok-clause-begun
returns-in-Ok-clause-begun c =
    let parts = subst (λ ws. HasParts AreFirstWords ws c.read_first_parts.result) c.new.ensures c.read_first_parts.ensures in
    let read = first_of AreFirstWords c.in-Some.first.now c.read_first_parts.result (Ok c.in-Ok.template) parts c.in-Ok.ensures in
    read_first_line c.args.text.now c.in-Some.first.now c.in-Some.after.now c.in-Ok.template c.in-Some.ensures read

pub returns-in-Err-clause-fault : goal.returns-in-Err-clause-fault
returns-in-Err-clause-fault c =
    let parts = subst (λ ws. HasParts AreFirstWords ws c.read_first_parts.result) c.new.ensures c.read_first_parts.ensures in
    let refused = first_of AreFirstWords c.in-Some.first.now c.read_first_parts.result (Err c.in-Err.fault) parts c.in-Err.ensures in
    rw c.in_line-in-Err.ensures (first_fault_kind c.in-Some.first.now c.in-Err.fault refused)
