use Rattle.std.proofs.Common.{◌≡◌, ◌≤◌, ◌+◌, ◌++◌, drop, length}
use Rattle.std.specs.Prelude.{vec_items, vec_len, vec_capacity}
use Rattle.std.specs.Vec.Iter.{into_iter_items, into_iter_len}
use Rattle.std.specs.VecDeque.{deque_len}
use mathlib.Core.List.{IsPrefix}
use Rattle.sup_live.specs.Batches.{AreGiven, replies_of, starts_of}
use Rattle.sup_live.specs.ReplyLaws.{each_of}
use Rattle.sup_live.specs.Starts.{child_started}
use Rattle.sup_live.proofs.batch.begin_all.Given as goal

abbrev pub invariant-loop-reply : goal.invariant-loop-reply
invariant-loop-reply g l = record {
  front : IsPrefix l.fn.handle.front l.handle.front;
  calls : (l.handle.calls ≡ l.fn.handle.calls) × (l.handle.number ≡ l.fn.handle.number);
  account : (l.account.ledger ≡ l.fn.account.ledger) × (l.account.parts ≡ l.fn.account.parts) × (l.account.paid ≡ l.fn.account.paid);
  made : l.account.made ++ each_of child_started (starts_of l.list.items) (into_iter_items l.reply-iterator) ≡ l.fn.account.made ++ each_of child_started (starts_of l.fn.list.items) (vec_items l.fn.replies);
  listed : into_iter_len l.reply-iterator ≤ deque_len l.list;
  room : vec_len l.started + into_iter_len l.reply-iterator ≤ vec_capacity l.started;
  started : replies_of l.started.items ++ into_iter_items l.reply-iterator ≡ vec_items l.fn.replies;
  given : AreGiven l.fn.list.items l.started.items;
  rest : l.list.items ≡ drop (length l.started.items) l.fn.list.items;
}
