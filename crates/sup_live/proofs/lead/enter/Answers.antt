use Rattle.std.proofs.Common.{◌≡◌, List, length, take, rules, refl, ap, sym, ◌∙◌, arith}
use base.Growing.{prefix_refl}
use Rattle.sup_types.specs.declared.history.Operation.{Operation}
use Rattle.sup_exits.specs.Exits.{operations_of}
use Rattle.sup_live.proofs.Led.{operations-length, take-length, not_err, applied-length, part-length, entered_none, entered_ok, entered_part}
use Rattle.sup_live.proofs.lead.enter.Goals as goal

pub returns-then-is_err-clause-entered : goal.returns-then-is_err-clause-entered
returns-then-is_err-clause-entered g c =
    let handle = c.args.handle.now in
    entered_none g.N.Name.template handle handle c.args.held.now.items _ _ (prefix_refl handle.front) (search rules) (search rules) refl refl

pub returns-in-Ok-clause-all : goal.returns-in-Ok-clause-all
returns-in-Ok-clause-all g c =
    let operations = c.list.new.operations.items in
    let items = c.args.held.now.items in
    let are : operations ≡ operations_of (take c.args.count items) = not_err c.list.result _ (sym c.is_err.ensures.value ∙ c.if-is_err.false) c.list.ensures in
    let n = applied-length g.S.Starter.may_answer g.N.Name.template g.N.Name.press c.args.handle.now c.apply_all.new.self _ operations c.in-Ok.field-0.replies.items c.in-Ok.field-0.ticket c.in-Ok.ensures.ok in
    let m = ap (λ (l : List Operation). length l) are ∙ operations-length (take c.args.count items) ∙ take-length c.args.count items (search rules) in
    let v = c.in-Ok.field-0.replies.ok.0 in
    omega (arith, n, m, v)

pub returns-in-Ok-clause-few : goal.returns-in-Ok-clause-few
returns-in-Ok-clause-few g c =
    let operations = c.list.new.operations.items in
    let items = c.args.held.now.items in
    let are : operations ≡ operations_of (take c.args.count items) = not_err c.list.result _ (sym c.is_err.ensures.value ∙ c.if-is_err.false) c.list.ensures in
    let n = applied-length g.S.Starter.may_answer g.N.Name.template g.N.Name.press c.args.handle.now c.apply_all.new.self _ operations c.in-Ok.field-0.replies.items c.in-Ok.field-0.ticket c.in-Ok.ensures.ok in
    let m = ap (λ (l : List Operation). length l) are ∙ operations-length (take c.args.count items) ∙ take-length c.args.count items (search rules) in
    let v = c.in-Ok.field-0.replies.ok.0 in
    omega (arith, n, m, v)

pub returns-in-Ok-clause-entered : goal.returns-in-Ok-clause-entered
returns-in-Ok-clause-entered g c =
    let operations = c.list.new.operations.items in
    let items = c.args.held.now.items in
    let are : operations ≡ operations_of (take c.args.count items) = not_err c.list.result _ (sym c.is_err.ensures.value ∙ c.if-is_err.false) c.list.ensures in
    let n = applied-length g.S.Starter.may_answer g.N.Name.template g.N.Name.press c.args.handle.now c.apply_all.new.self _ operations c.in-Ok.field-0.replies.items c.in-Ok.field-0.ticket c.in-Ok.ensures.ok in
    let m = ap (λ (l : List Operation). length l) are ∙ operations-length (take c.args.count items) ∙ take-length c.args.count items (search rules) in
    let v = c.in-Ok.field-0.replies.ok.0 in
    entered_ok g.S.Starter.may_answer g.N.Name.template g.N.Name.press c.args.handle.now c.apply_all.new.self _ items c.args.count _ operations c.in-Ok.field-0.replies.items c.in-Ok.field-0.ticket c.apply_all.ensures.front are (omega (arith, n, m, v)) c.in-Ok.ensures.ok

pub returns-in-Err-clause-few : goal.returns-in-Err-clause-few
returns-in-Err-clause-few g c =
    let operations = c.list.new.operations.items in
    let items = c.args.held.now.items in
    let are : operations ≡ operations_of (take c.args.count items) = not_err c.list.result _ (sym c.is_err.ensures.value ∙ c.if-is_err.false) c.list.ensures in
    let n = part-length g.S.Starter.may_answer g.N.Name.template g.N.Name.press c.args.handle.now c.apply_all.new.self _ operations c.in-Err.field-0.replies.items c.in-Err.field-0.ticket c.in-Err.ensures.part c.in-Err.ensures.nothing in
    let m = ap (λ (l : List Operation). length l) are ∙ operations-length (take c.args.count items) ∙ take-length c.args.count items (search rules) in
    let v = c.in-Err.field-0.replies.ok.0 in
    omega (arith, n, m, v)

pub returns-in-Err-clause-entered : goal.returns-in-Err-clause-entered
returns-in-Err-clause-entered g c =
    let operations = c.list.new.operations.items in
    let items = c.args.held.now.items in
    let are : operations ≡ operations_of (take c.args.count items) = not_err c.list.result _ (sym c.is_err.ensures.value ∙ c.if-is_err.false) c.list.ensures in
    let n = part-length g.S.Starter.may_answer g.N.Name.template g.N.Name.press c.args.handle.now c.apply_all.new.self _ operations c.in-Err.field-0.replies.items c.in-Err.field-0.ticket c.in-Err.ensures.part c.in-Err.ensures.nothing in
    let m = ap (λ (l : List Operation). length l) are ∙ operations-length (take c.args.count items) ∙ take-length c.args.count items (search rules) in
    let v = c.in-Err.field-0.replies.ok.0 in
    entered_part g.S.Starter.may_answer g.N.Name.template g.N.Name.press c.args.handle.now c.apply_all.new.self _ items c.args.count _ operations c.in-Err.field-0.replies.items c.in-Err.field-0.ticket c.apply_all.ensures.front are (omega (arith, v)) (omega (arith, n, m, v)) c.in-Err.ensures.part c.in-Err.ensures.nothing
