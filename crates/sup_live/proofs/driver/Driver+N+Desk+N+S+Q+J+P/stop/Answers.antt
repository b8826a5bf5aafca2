use Rattle.std.proofs.Common.{[], refl}
use Rattle.sup_types.specs.declared.history.Operation.TheVariants.{Stop}
use Rattle.sup_live.specs.ReplyLaws.{called_else, since_grown}
use Rattle.sup_live.specs.Restarts.{number_restarted}
use Rattle.sup_live.proofs.Led.{called_added, driven_more, led_entered}
use Rattle.sup_live.proofs.driver.Driver+N+Desk+N+S+Q+J+P.stop.Goals as goal

pub invariant_of-self : goal.invariant_of-self
invariant_of-self g c =
    let may = g.S.Starter.may_answer in
    let template = g.N.Name.template in
    let press = g.N.Name.press in
    let was = c.loop.self in
    let since = was.hands.since in
    let before = was.hands.handle in
    let after = c.stop-stopped.new.self in
    let e = c.stop-stopped.ensures.result in
    let more = called_added may template press before after Stop _ c.stop-stopped.result refl refl e in
    record {
      of_ledger = was.of_ledger;
      at = was.at;
      begun = since_grown since before.calls more.0 after.calls more.1 was.begun;
      made = called_else number_restarted since may template press before _ Stop _ was.begun after c.stop-stopped.result (λ _. refl) was.made e;
      driven = driven_more since before.calls after.calls more.0 more.1 was.begun more.3 was.driven;
      led = led_entered since before.calls after.calls more.0 more.1 was.begun g.P.Office.may_end was.hands.entered.paid [] more.2 was.led;
      room = was.room;
    }

pub invariant_of-self-in-Err : goal.invariant_of-self-in-Err
invariant_of-self-in-Err g c =
    let may = g.S.Starter.may_answer in
    let template = g.N.Name.template in
    let press = g.N.Name.press in
    let was = c.loop.self in
    let since = was.hands.since in
    let before = was.hands.handle in
    let after = c.stop-stopped.new.self in
    let e = c.stop-stopped.ensures.result in
    let more = called_added may template press before after Stop _ c.stop-stopped.result refl refl e in
    record {
      of_ledger = was.of_ledger;
      at = was.at;
      begun = since_grown since before.calls more.0 after.calls more.1 was.begun;
      made = called_else number_restarted since may template press before _ Stop _ was.begun after c.stop-stopped.result (λ _. refl) was.made e;
      driven = driven_more since before.calls after.calls more.0 more.1 was.begun more.3 was.driven;
      led = led_entered since before.calls after.calls more.0 more.1 was.begun g.P.Office.may_end was.hands.entered.paid [] more.2 was.led;
      room = was.room;
    }
