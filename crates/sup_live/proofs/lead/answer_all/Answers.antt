-- One exit more is paid, and its reply answered.
use Rattle.std.proofs.Common.{rules, drop, ◌++◌, ap, sym, ◌∙◌}
use Rattle.std.specs.Vec.Iter.{into_iter_items, into_iter_len}
use base.Growing.{prefix_trans}
use Rattle.sup_exits.specs.Endings.{is_ending}
use Rattle.sup_live.specs.Restarts.{restarted_among, numbers_of}
use Rattle.sup_live.proofs.Led.{led_paid, shown_more}
use Rattle.sup_live.proofs.lead.answer_all.Goals as goal

pub loop-reply-preserved : goal.loop-reply-preserved
loop-reply-preserved g c =
    let may_end = g.P.Office.may_end in
    let i = c.loop-reply.invariant in
    let b = c.answer.ensures in
    let p = c.pay-child.ensures in
    let was = c.loop-reply.hands in
    let now = c.answer.new.hands in
    let exit = c.in-Some-pop_front.exit in
    let ending = ap (λ e. is_ending may_end e.reason) (sym p.exit) ∙ p.ending in
    record {
      front = prefix_trans _ _ _ i.front b.front;
      calls = (b.calls.0 ∙ i.calls.0, b.calls.1 ∙ i.calls.1, b.calls.2 ∙ i.calls.2);
      entered = search rules;
      restarted = b.restarted;
      held = search rules;
      led = led_paid may_end (drop was.since was.handle.calls) (drop now.since now.handle.calls) was.entered.paid now.entered.paid c.loop-reply.held.items c.pop_front.new.self.items exit (into_iter_len c.loop-reply.reply-iterator) (into_iter_len c.next.new.self)
          (λ k. drop (b.calls.2 k) (b.calls.0 k)) c.in-Some-pop_front.ensures.items (search rules) (ap (λ a. a.paid) b.entered ∙ ap (λ a. a.paid) p.account) ending i.led;
      made = shown_more (numbers_of now.restarted.made) (numbers_of was.restarted.made) (numbers_of c.args.hands.now.restarted.made ++ restarted_among c.args.replies.items) (into_iter_items c.loop-reply.reply-iterator) (into_iter_items c.next.new.self) c.in-Some.reply
          (search rules) b.made i.made;
      room = search rules;
      same = search rules;
    }
