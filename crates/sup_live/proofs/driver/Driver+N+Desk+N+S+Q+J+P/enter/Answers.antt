use Rattle.std.proofs.Common.{length, take, drop, ◌++◌, ap, rules, ◌∙◌, arith}
use Rattle.std.specs.Prelude.{vec_len}
use Rattle.sup_live.specs.Leads.{are_driven}
use Rattle.sup_live.specs.ReplyLaws.{since_grown}
use Rattle.sup_live.specs.Restarts.{restarted_among, numbers_of}
use Rattle.sup_live.proofs.Led.{led_entered, driven_more, restarted_made}
use Rattle.sup_live.proofs.driver.Driver+N+Desk+N+S+Q+J+P.enter.Goals as goal

pub answer_all-requires-clause-led : goal.answer_all-requires-clause-led
answer_all-requires-clause-led g c =
    let was = c.args.self.now in
    let e = c.enter-replies.ensures.entered in
    led_entered was.hands.since was.hands.handle.calls c.enter-replies.new.handle.calls e.added e.calls_are was.begun g.P.Office.may_end was.hands.entered.paid (take (vec_len c.enter-replies.result.0) c.take_exits.new.held.items) e.exits_are was.led

pub invariant_of-self-2 : goal.invariant_of-self-2
invariant_of-self-2 g c =
    let template = g.N.Name.template in
    let was = c.args.self.now in
    let since = was.hands.since in
    let before = was.hands.handle.calls in
    let mid = c.enter-replies.new.handle in
    let now = c.answer_all.new.hands in
    let e = c.enter-replies.ensures.entered in
    let b = c.answer_all.ensures in
    let numbers = numbers_of was.hands.restarted.made in
    let low = since_grown since before e.added mid.calls e.calls_are was.begun in
    let same = ap length b.calls.0 in
    let later = b.calls.2 in
    record {
      of_ledger = (b.restarted.0, b.entered.0);
      at = (b.entered.1, b.restarted.1, b.restarted.2);
      begun = omega (arith, low, same, later);
      made = restarted_made template since now.since mid now.handle (numbers ++ restarted_among c.enter-replies.result.0.items) (numbers_of now.restarted.made) (e.restarted since numbers was.begun was.made) later b.front b.calls.0 b.calls.1 b.made;
      driven = (λ i. are_driven (drop (later i) (b.calls.0 i))) ∙ driven_more since before mid.calls e.added e.calls_are was.begun e.driven was.driven;
      led = b.led;
      room = search rules;
    }
