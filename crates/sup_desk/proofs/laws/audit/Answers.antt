use Rattle.std.proofs.Common.{rules, ◌<◌, length, ap, ◌∙◌, arith, subst}
use Rattle.sup_desk.specs.Audits.{IsGrown}
use Rattle.sup_desk.specs.Books.{Kept}
use Rattle.sup_desk.specs.Knowledge.{Knowledge}
use Rattle.sup_desk.proofs.Audited.{grown_set, seen_set, told_grown, told_all}
use Rattle.sup_desk.proofs.laws.audit.Goals as goal

pub loop-handle-preserved : goal.loop-handle-preserved
loop-handle-preserved g c =
    let within : c.loop-handle.handle-index < length c.loop-handle.handles = omega arith in
    let old = c.loop-handle.invariant in
    let told = c.give_ticket.ensures in
    let history = ap (λ (k : Kept). k.history) old.book in
    record {
      book = told.same ∙ old.book;
      grown = grown_set c.args.handles.now c.loop-handle.handles c.loop-handle.handle-index c.handle-item.result c.give_ticket.new.handle
          old.grown within (subst (λ (k : Knowledge). IsGrown k c.give_ticket.new.handle) c.handle.view_is (told_grown c.handle.inside.caller c.give_ticket.new.handle c.give_ticket.ensures.seen c.give_ticket.ensures.calls));
      seen = seen_set c.args.book.now.history c.loop-handle.handles c.loop-handle.handle-index c.give_ticket.new.handle
          old.seen within (told_all c.args.book.now.history c.give_ticket.new.handle (told.front.0 ∙ history) told.own);
    }

pub returns-clause-split : goal.returns-clause-split
returns-clause-split g c = search rules
