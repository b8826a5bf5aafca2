use Rattle.std.proofs.Common.{List, length, ap, ◌∙◌, subst, arith}
use Rattle.sup_types.specs.declared.history.Operation.{Operation}
use Rattle.sup_desk.specs.Batches.{IsApplied}
use Rattle.sup_live.proofs.Batched.{all_starts, starts_length}
use Rattle.sup_live.proofs.Led.{applied-length, part-length}
use Rattle.sup_live.proofs.batch.enter_all.Goals as goal

pub returns-in-Ok-apply_all-clause-entered : goal.returns-in-Ok-apply_all-clause-entered
returns-in-Ok-apply_all-clause-entered g c =
    let may = g.S.Starter.may_answer in
    let template = g.N.Name.template in
    let press = g.N.Name.press in
    let before = c.args.handle.now in
    let after = c.apply_all.new.self in
    let operations = c.in-Ok.operations.items in
    let replies = c.in-Ok-apply_all.field-0.replies.items in
    let ticket = c.in-Ok-apply_all.field-0.ticket in
    let done = c.in-Ok-apply_all.ensures.ok in
    let n = applied-length may template press before after _ operations replies ticket done in
    subst (λ l. IsApplied may template press before l c.args.second after replies ticket) (all_starts c.args.list.now.items operations (length replies) c.in-Ok.ensures n) done

pub returns-in-Ok-apply_all-clause-few : goal.returns-in-Ok-apply_all-clause-few
returns-in-Ok-apply_all-clause-few g c =
    let operations = c.in-Ok.operations.items in
    let n = applied-length g.S.Starter.may_answer g.N.Name.template g.N.Name.press c.args.handle.now c.apply_all.new.self _ operations c.in-Ok-apply_all.field-0.replies.items c.in-Ok-apply_all.field-0.ticket c.in-Ok-apply_all.ensures.ok in
    let m = ap (λ (l : List Operation). length l) c.in-Ok.ensures ∙ starts_length c.args.list.now.items in
    omega (arith, n, m)

pub returns-in-Ok-apply_all-clause-all : goal.returns-in-Ok-apply_all-clause-all
returns-in-Ok-apply_all-clause-all g c =
    let operations = c.in-Ok.operations.items in
    let n = applied-length g.S.Starter.may_answer g.N.Name.template g.N.Name.press c.args.handle.now c.apply_all.new.self _ operations c.in-Ok-apply_all.field-0.replies.items c.in-Ok-apply_all.field-0.ticket c.in-Ok-apply_all.ensures.ok in
    n ∙ ap (λ (l : List Operation). length l) c.in-Ok.ensures ∙ starts_length c.args.list.now.items

pub returns-clause-few : goal.returns-clause-few
returns-clause-few g c =
    let operations = c.in-Ok.operations.items in
    let n = part-length g.S.Starter.may_answer g.N.Name.template g.N.Name.press c.args.handle.now c.apply_all.new.self _ operations c.in-Err.field-0.replies.items c.in-Err.field-0.ticket c.in-Err.ensures.part c.in-Err.ensures.nothing in
    let m = ap (λ (l : List Operation). length l) c.in-Ok.ensures ∙ starts_length c.args.list.now.items in
    omega (arith, n, m)
