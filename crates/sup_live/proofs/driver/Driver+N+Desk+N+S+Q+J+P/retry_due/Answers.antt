use Rattle.std.proofs.Common.{List, [], ◌++◌, length, drop, refl, ap, sym, ◌∙◌, subst, arith}
use Rattle.sup_types.specs.declared.history.Operation.TheVariants.{Retry}
use Rattle.sup_types.specs.declared.history.Entry.{Entry}
use Rattle.sup_exits.specs.declared.exit.Child.{Child}
use Rattle.sup_live.specs.Leads.{are_driven, IsLed}
use Rattle.sup_live.specs.ReplyLaws.{one_more, since_grown}
use Rattle.sup_live.specs.Restarts.{number_restarted, restarted_as, numbers_of}
use Rattle.sup_live.proofs.Led.{called_added, driven_more, led_entered, restarted_made}
use Rattle.sup_live.proofs.driver.Driver+N+Desk+N+S+Q+J+P.retry_due.Goals as goal

pub invariant_of-self-in-Ok : goal.invariant_of-self-in-Ok
invariant_of-self-in-Ok g c =
    let may = g.S.Starter.may_answer in
    let may_end = g.P.Office.may_end in
    let template = g.N.Name.template in
    let press = g.N.Name.press in
    let was = c.is_unlisted.new.self in
    let since = was.hands.since in
    let before = was.hands.handle in
    let mid = c.retry-tried.new.self in
    let now = c.answer.new.hands in
    let o = Retry c.in-Some.retry.child.number in
    let reply = c.in-Ok.done.reply in
    let told = rw c.in-Ok.is at c.retry-tried.ensures.result in
    let b = c.answer.ensures in
    let later = b.calls.2 in
    let calls = b.calls.0 in
    let more = called_added may template press before mid o _ c.retry-tried.result refl refl c.retry-tried.ensures.result in
    let numbers = numbers_of was.hands.restarted.made in
    let tried = one_more number_restarted since may template press before numbers o _ was.begun mid reply _ was.made told.ok in
    let low = since_grown since before.calls more.0 mid.calls more.1 was.begun in
    let same = ap length calls in
    let led = led_entered since before.calls mid.calls more.0 more.1 was.begun may_end was.hands.entered.paid [] more.2 was.led in
    record {
      of_ledger = (b.restarted.0, ap (λ a. a.ledger) b.entered ∙ was.of_ledger.1);
      at = (ap (λ a. a.parts) b.entered ∙ was.at.0, b.restarted.1, b.restarted.2);
      begun = omega (arith, low, same, later);
      made = restarted_made template since now.since mid now.handle (numbers ++ restarted_as reply) (numbers_of now.restarted.made) tried later b.front calls b.calls.1 b.made;
      driven = (λ i. are_driven (drop (later i) (calls i))) ∙ driven_more since before.calls mid.calls more.0 more.1 was.begun more.3 was.driven;
      led = subst (λ (x : List Entry × List Child). IsLed may_end x.0 x.1 []) (λ i. (sym (λ k. drop (later k) (calls k)) i, sym (ap (λ a. a.paid) b.entered) i)) led;
      room = was.room;
    }
