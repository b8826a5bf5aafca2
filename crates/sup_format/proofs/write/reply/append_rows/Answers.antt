use Rattle.std.proofs.Common.{arith}
use Rattle.std.proofs.lemmas.Grind.{common_steps}
use Rattle.std.proofs.lemmas.Result.{err_from_is_err_and}
use Rattle.sup_format.proofs.Writing.Written.{Grows-more, grows_on_err}
use Rattle.sup_format.proofs.write.reply.append_rows.Goals as goal

pub returns-in_err-append_row-clause-err : goal.returns-in_err-append_row-clause-err
returns-in_err-append_row-clause-err g c =
    let p = err_from_is_err_and c.from_residual.result c.from_residual.ensures.1 in
    rw p.1 (Grows-more c.args.out.now.items c.loop-row.out.items c.append_row.new.out.items _ c.loop-row.invariant c.in_err-append_row.ensures.err)

pub returns-clause-err : goal.returns-clause-err
returns-clause-err g c = grows_on_err c.append_line.result c.args.out.now.items c.loop-row.out.items c.append_line.new.out.items _ c.loop-row.invariant c.append_line.ensures.err

pub returns-clause-ok : goal.returns-clause-ok
returns-clause-ok g c = grind (arith, common_steps)
