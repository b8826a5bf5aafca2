use Rattle.std.proofs.Common.{◌<◌, length, ap, ◌∙◌, arith}
use Rattle.sup_desk.specs.Books.{Kept}
use Rattle.sup_desk.proofs.Audited.{grown_set, seen_set, told_grown, told_all}
use Rattle.sup_desk.proofs.recovery.see_all_of.Goals as goal

pub loop-caller-preserved : goal.loop-caller-preserved
loop-caller-preserved g c =
    let within : c.loop-caller.caller-index < length c.loop-caller.callers = omega arith in
    let old = c.loop-caller.invariant in
    let told = c.give_ticket.ensures in
    let history = ap (λ (k : Kept). k.history) old.book in
    record {
      book = told.same ∙ old.book;
      grown = grown_set c.args.callers.now c.loop-caller.callers c.loop-caller.caller-index c.caller-item.result c.give_ticket.new.handle
          old.grown within (told_grown _ c.give_ticket.new.handle c.give_ticket.ensures.seen c.give_ticket.ensures.calls);
      seen = seen_set c.args.book.now.history c.loop-caller.callers c.loop-caller.caller-index c.give_ticket.new.handle
          old.seen within (told_all c.args.book.now.history c.give_ticket.new.handle (told.front.0 ∙ history) told.own);
    }
