use Rattle.std.proofs.Common.{◌≡◌, ◌+◌, ◌≤◌, [], ◌++◌, length}
use Rattle.std.specs.Prelude.{vec_items}
use Rattle.std.specs.Vec.{vec_capacity}
use Rattle.sup_inbox.specs.Delivery.{known_by, taker_view, total}
use Rattle.sup_inbox.proofs.settling.empty.Given as goal

abbrev pub invariant-loop : goal.invariant-loop
invariant-loop g l = record {
  pass : (l.pass.table_id ≡ l.inbox.id) × (l.pass.me.1 ≡ []);
  view : known_by l.pass ≡ taker_view (known_by l.fn.pass).made ((known_by l.fn.pass).taken ++ vec_items l.left) (known_by l.fn.pass).gathered;
  room : l.inbox.capacity ≤ vec_capacity l.left;
  all : length (known_by l.fn.pass).gathered ≡ (known_by l.fn.pass).made;
  enough : total (known_by l.fn.pass).gathered ≤ length (known_by l.fn.pass).taken + l.inbox.capacity;
}
