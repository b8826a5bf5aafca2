use Rattle.std.proofs.Common.{◌≡◌, ◌+◌, ◌≤◌, ◌++◌, [], take, drop}
use Rattle.std.specs.Prelude.{vec_items}
use Rattle.std.specs.Vec.Iter.{into_iter_items, into_iter_len}
use Rattle.std.specs.VecDeque.{deque_len, deque_capacity}
use mathlib.Core.List.{IsPrefix}
use Rattle.sup_live.specs.Leads.{IsLed}
use Rattle.sup_live.specs.Restarts.{restarted_among, numbers_of}
use Rattle.sup_live.proofs.lead.answer_all.Given as goal

abbrev pub invariant-loop-reply : goal.invariant-loop-reply
invariant-loop-reply g l = record {
  front : IsPrefix l.fn.hands.handle.front l.hands.handle.front;
  calls : (l.hands.handle.calls ≡ l.fn.hands.handle.calls) × (l.hands.handle.number ≡ l.fn.hands.handle.number) × (l.hands.since ≡ l.fn.hands.since);
  entered : (l.hands.entered.ledger ≡ g.P.Office.ledger) × (l.hands.entered.parts ≡ 1);
  restarted : (l.hands.restarted.ledger ≡ g.P.Office.ledger) × (l.hands.restarted.parts ≡ 1) × (l.hands.restarted.paid ≡ []);
  held : into_iter_len l.reply-iterator ≤ deque_len l.held;
  led : IsLed g.P.Office.may_end (drop l.hands.since l.hands.handle.calls) l.hands.entered.paid (take (into_iter_len l.reply-iterator) l.held.items);
  made : numbers_of l.hands.restarted.made ++ restarted_among (into_iter_items l.reply-iterator) ≡ numbers_of l.fn.hands.restarted.made ++ restarted_among (vec_items l.fn.replies);
  room : deque_len l.restarts.retries + into_iter_len l.reply-iterator ≤ deque_capacity l.restarts.retries;
  same : deque_capacity l.held ≡ deque_capacity l.fn.held;
}
