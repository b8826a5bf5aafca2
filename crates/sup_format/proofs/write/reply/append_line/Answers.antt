use Rattle.std.proofs.Common.{◌++◌, ◌∷◌, [], List, ℕ, ap, sym, append-nil, ◌∙◌, arith}
use Rattle.std.proofs.lemmas.Result.{err_from_is_err_and}
use Rattle.sup_format.specs.Writing.Replies.{Grows}
use Rattle.sup_format.proofs.Writing.Written.{word_appended, first_word_appended, Grows-more}
use Rattle.sup_format.proofs.write.reply.append_line.Goals as goal
use Rattle.sup_format.proofs.write.reply.append_line.Goals.{then-i-gt0+in_ok-push, else-i-gt0}

pub returns-in_err-append_field-clause-err : goal.returns-in_err-append_field-clause-err
returns-in_err-append_field-clause-err g c =
    let p = err_from_is_err_and c.from_residual-in_err-append_field.result c.from_residual-in_err-append_field.ensures.1 in
    let old = c.args.out.now.items in
    let grown : Grows c.loop-i.out.items c.append_field.new.out.items =
    elim c.if-i-gt0.branch [
      | then-i-gt0+in_ok-push w ↦ Grows-more _ c.if-i-gt0.out.items _ (32 ∷ []) (ap (λ v. v.items) w.out-is ∙ w.in_ok-push.ensures.items) c.in_err-append_field.ensures.err
      | else-i-gt0 w ↦ Grows-more _ c.if-i-gt0.out.items _ [] (ap (λ v. v.items) w.out-is ∙ sym (append-nil c.loop-i.out.items)) c.in_err-append_field.ensures.err
    ] in
    rw p.1 (Grows-more old c.loop-i.out.items _ _ c.loop-i.invariant grown)

pub loop-i-preserved : goal.loop-i-preserved
loop-i-preserved g c =
    elim c.if-i-gt0.branch [
      | then-i-gt0+in_ok-push w ↦ word_appended c.args.out.now.items c.if-i-gt0.out.items c.append_field.new.out.items c.args.fields.now c.loop-i.i _ w.if-i-gt0.true c.loop-i-test.true
          (ap (λ v. v.items) w.out-is ∙ w.in_ok-push.ensures.items ∙ ap (λ (l : List ℕ). l ++ 32 ∷ []) c.loop-i.invariant) c.in_ok-append_field.ensures.ok
      | else-i-gt0 w ↦ first_word_appended c.args.out.now.items c.if-i-gt0.out.items c.append_field.new.out.items c.args.fields.now c.loop-i.i _ (omega (arith, w.if-i-gt0.false)) c.loop-i-test.true
          (ap (λ v. v.items) w.out-is ∙ c.loop-i.invariant) c.in_ok-append_field.ensures.ok
    ]
