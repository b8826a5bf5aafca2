use Rattle.std.proofs.Common.{◌≡◌, ◌≤◌, []}
use Rattle.std.specs.Prelude.{vec_len, vec_items}
use Rattle.std.specs.Vec.{vec_capacity}
use Rattle.sup_inbox.specs.Delivery.{known_by, taker_view}
use Rattle.sup_inbox.specs.Ends.{AreFrom, AreNew}
use Rattle.sup_inbox.proofs.inbox.Root.split.Given as goal

abbrev pub invariant-loop-made : goal.invariant-loop-made
invariant-loop-made g l = record {
  pass : (l.pass.table_id ≡ l.inbox.id) × (l.pass.me.1 ≡ []) × (known_by l.pass ≡ taker_view l.made [] []);
  posters : AreFrom l.inbox.id 1 (vec_items l.all) × AreNew (vec_items l.all);
  len : vec_len l.all ≡ l.made;
  room : l.posters ≤ vec_capacity l.all;
}
