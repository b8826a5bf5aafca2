use Rattle.std.proofs.lemmas.Result.{err_from_is_err_and}
use Rattle.sup_format.proofs.Writing.Written.{Grows-more, Grows-refl}
use Rattle.sup_format.proofs.write.reply.append_spaced.Goals as goal

pub returns-in_err-append_field-clause-err : goal.returns-in_err-append_field-clause-err
returns-in_err-append_field-clause-err g c =
    let p = err_from_is_err_and c.from_residual.result c.from_residual.ensures.1 in
    rw p.1 (Grows-more c.args.out.now.items c.loop-field.out.items c.append_field.new.out.items _ c.loop-field.invariant c.in_err-append_field.ensures.err)

pub returns-in_err-push-clause-err : goal.returns-in_err-push-clause-err
returns-in_err-push-clause-err g c =
    let p = err_from_is_err_and c.from_residual-in_err-push.result c.from_residual-in_err-push.ensures.1 in
    let grown = Grows-more c.loop-field.out.items c.append_field.new.out.items c.append_field.new.out.items _ c.in_ok-append_field.ensures.ok (Grows-refl c.append_field.new.out.items) in
    rw (p.1, c.in_err-push.ensures.items) (Grows-more c.args.out.now.items c.loop-field.out.items c.append_field.new.out.items _ c.loop-field.invariant grown)
