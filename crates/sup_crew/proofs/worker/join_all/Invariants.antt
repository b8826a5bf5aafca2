use Rattle.std.proofs.Common.{◌≡◌, ℕ, ◌+◌, ◌<◌, ◌≤◌}
use Rattle.std.specs.Prelude.{vec_items, vec_len, slice_index_or}
use Rattle.std.specs.Vec.{vec_capacity}
use Rattle.std.specs.Vec.Iter.{into_iter_items, into_iter_len}
use Rattle.sup_crew.specs.Work.{AreWorked}
use Rattle.sup_crew.proofs.worker.join_all.Given as goal

abbrev pub invariant-loop-worker : goal.invariant-loop-worker
invariant-loop-worker g l = record {
  len : (vec_len l.finished + into_iter_len l.worker-iterator ≡ vec_len l.fn.workers) × (vec_len l.fn.workers ≤ vec_capacity l.finished);
  rest : (k : ℕ) (d : _) → k < into_iter_len l.worker-iterator → ((slice_index_or (into_iter_items l.worker-iterator) k d).promise.crew.now ≡ l.crew) × ((slice_index_or (into_iter_items l.worker-iterator) k d).promise.body.now ≡ l.body) × ((slice_index_or (into_iter_items l.worker-iterator) k d).promise.number ≡ vec_len l.finished + (k + 1));
  done : AreWorked (g.B.Body.may_end l.body) l.crew.jobs l.crew.inbox.id 1 (vec_items l.finished);
}
