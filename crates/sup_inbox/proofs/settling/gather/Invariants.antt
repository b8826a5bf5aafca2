use Rattle.std.proofs.Common.{◌≡◌, [], ◌++◌, map}
use Rattle.std.specs.Prelude.{vec_items}
use Rattle.std.specs.Vec.Iter.{into_iter_items}
use Rattle.sup_inbox.specs.Delivery.{known_by, taker_view}
use Rattle.sup_inbox.specs.Ends.{AreOf, sent_of}
use Rattle.sup_inbox.proofs.settling.gather.Given as goal

abbrev pub invariant-loop-poster : goal.invariant-loop-poster
invariant-loop-poster g l = record {
  pass : (l.pass.table_id ≡ l.inbox.id) × (l.pass.me.1 ≡ []);
  view : known_by l.pass ≡ taker_view (known_by l.fn.pass).made (known_by l.fn.pass).taken (known_by l.pass).gathered;
  rows : AreOf l.inbox.id (into_iter_items l.poster-iterator);
  lists : (known_by l.pass).gathered ++ map sent_of (into_iter_items l.poster-iterator) ≡ map sent_of (vec_items l.fn.posters);
}
