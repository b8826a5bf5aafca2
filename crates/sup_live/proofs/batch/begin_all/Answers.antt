-- One child more is begun.
use Rattle.std.proofs.Common.{◌≡◌, ◌++◌, length, rules, ap, ◌∙◌, arith}
use Rattle.std.specs.Prelude.{vec_items}
use Rattle.std.specs.Vec.Iter.{into_iter_items}
use base.Growing.{prefix_trans}
use Rattle.sup_live.specs.Batches.{starts_of}
use Rattle.sup_live.specs.ReplyLaws.{each_of}
use Rattle.sup_live.specs.Starts.{child_started}
use Rattle.sup_live.proofs.Batched.{made_all, made_more, replies_more, given_more, rest_more}
use Rattle.sup_live.proofs.batch.begin_all.Goals as goal

pub loop-reply-preserved : goal.loop-reply-preserved
loop-reply-preserved g c =
    let i = c.loop-reply.invariant in
    let b = c.begin_started-child.ensures in
    let list = c.loop-reply.list.items in
    let rest = c.pop_front.new.self.items in
    let first = c.in-Some-pop_front.ensures.items in
    let more = c.push_reserved.ensures.items in
    let all = c.args.account.now.made ++ each_of child_started (starts_of c.args.list.now.items) (vec_items c.args.replies) in
    record {
      front = prefix_trans _ _ _ i.front b.front;
      calls = (b.calls.0 ∙ i.calls.0, b.calls.1 ∙ i.calls.1);
      account = (ap (λ a. a.ledger) b.account ∙ i.account.0, ap (λ a. a.parts) b.account ∙ i.account.1, ap (λ a. a.paid) b.account ∙ i.account.2);
      made = made_more c.loop-reply.account.made c.begin_started-child.new.account.made all list rest _ (into_iter_items c.loop-reply.reply-iterator) (into_iter_items c.next.new.self) c.in-Some.reply first (search rules) (ap (λ a. a.made) b.account) i.made;
      listed = search rules;
      room = search rules;
      started = replies_more c.loop-reply.started.items c.push_reserved.new.self.items _ (into_iter_items c.loop-reply.reply-iterator) (into_iter_items c.next.new.self) (vec_items c.args.replies) more (search rules) i.started;
      given = given_more c.args.list.now.items c.loop-reply.started.items c.push_reserved.new.self.items _ list rest _ more first i.rest b.address b.own i.given;
      rest = rest_more c.args.list.now.items c.loop-reply.started.items c.push_reserved.new.self.items _ list rest _ more first i.rest;
    }

pub returns-clause-account : goal.returns-clause-account
returns-clause-account g c =
    let i = c.loop-reply.invariant in
    let all = c.args.account.now.made ++ each_of child_started (starts_of c.args.list.now.items) (vec_items c.args.replies) in
    let told : c.loop-reply.reply-iterator.rest.len ≡ 0 = c.in-None.ensures.steps.0 in
    let sized = c.loop-reply.reply-iterator.rest.ok.0 in
    let none : length c.loop-reply.reply-iterator.rest.items ≡ 0 = omega (arith, sized, told) in
    let made = made_all c.loop-reply.account.made all c.loop-reply.list.items (into_iter_items c.loop-reply.reply-iterator) none i.made in
    (λ k. record { ledger = i.account.0 k; parts = i.account.1 k; made = made k; paid = i.account.2 k })
