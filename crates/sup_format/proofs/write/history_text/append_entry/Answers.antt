use Rattle.std.proofs.lemmas.Result.{err_from_is_err_and}
use Rattle.sup_format.proofs.Reading.HistoryLines.{entry_appended, spells_one_more}
use Rattle.sup_format.proofs.Writing.Written.{Grows-more}
use Rattle.sup_format.proofs.write.history_text.append_entry.Goals as goal

pub returns-clause-text : goal.returns-clause-text
returns-clause-text g c = entry_appended c.args.text.now.items c.append_numbers.new.text.items c.append_operation.new.text.items c.append_answer.new.text.items c.args.entry.now c.in_ok-append_numbers.ensures.text c.in_ok-append_operation.ensures.text c.in_ok-append_answer.ensures.text

pub returns-clause-fits : goal.returns-clause-fits
returns-clause-fits g c =
    let numbers = c.append_numbers.ensures.fits in
    record { handle = numbers.0; serial = numbers.1; moment = numbers.2; operation = c.append_operation.ensures.fits; answer = c.append_answer.ensures.fits }

pub returns-clause-spelled : goal.returns-clause-spelled
returns-clause-spelled g c =
    let numbers = c.append_numbers.ensures.fits in
    spells_one_more c.args.entry.now (record { handle = numbers.0; serial = numbers.1; moment = numbers.2; operation = c.append_operation.ensures.fits; answer = c.append_answer.ensures.fits })

pub returns-in_err-append_operation-clause-err : goal.returns-in_err-append_operation-clause-err
returns-in_err-append_operation-clause-err g c =
    let p = err_from_is_err_and c.from_residual-in_err-append_operation.result c.from_residual-in_err-append_operation.ensures.1 in
    rw p.1 (Grows-more c.args.text.now.items c.append_numbers.new.text.items c.append_operation.new.text.items _ c.in_ok-append_numbers.ensures.text c.in_err-append_operation.ensures.err)

pub returns-in_err-append_answer-clause-err : goal.returns-in_err-append_answer-clause-err
returns-in_err-append_answer-clause-err g c =
    let p = err_from_is_err_and c.from_residual-in_err-append_answer.result c.from_residual-in_err-append_answer.ensures.1 in
    rw p.1 (Grows-more c.args.text.now.items c.append_numbers.new.text.items c.append_answer.new.text.items _ c.in_ok-append_numbers.ensures.text
    (Grows-more c.append_numbers.new.text.items c.append_operation.new.text.items c.append_answer.new.text.items _ c.in_ok-append_operation.ensures.text c.in_err-append_answer.ensures.err))
