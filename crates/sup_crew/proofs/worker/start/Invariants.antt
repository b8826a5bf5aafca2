use Rattle.std.proofs.Common.{◌≡◌, ℕ, ◌+◌, ◌<◌, ◌≤◌, []}
use Rattle.std.specs.Prelude.{vec_items, vec_len, slice_index_or}
use Rattle.std.specs.Vec.{vec_capacity}
use Rattle.std.specs.Vec.Iter.{into_iter_items, into_iter_len}
use Rattle.sup_inbox.specs.Ends.{AreFrom, AreNew}
use Rattle.sup_crew.specs.Jobs.{permission}
use Rattle.sup_crew.proofs.worker.start.Given as goal

abbrev pub invariant-loop-poster : goal.invariant-loop-poster
invariant-loop-poster g l = record {
  endpoint : (l.endpoint ≡ record { queue = l.crew.jobs; permission = permission l.endpoint.permission.parts [] [] }) × (l.endpoint.permission.parts + vec_len l.workers ≡ 1024);
  rows : AreFrom l.crew.inbox.id (vec_len l.workers + 1) (into_iter_items l.poster-iterator) × AreNew (into_iter_items l.poster-iterator);
  len : (vec_len l.workers + into_iter_len l.poster-iterator ≡ vec_len l.fn.posters) × (vec_len l.fn.posters < 1024) × (vec_len l.fn.posters ≤ vec_capacity l.workers);
  each : (k : ℕ) (d : _) → k < vec_len l.workers → ((slice_index_or (vec_items l.workers) k d).promise.crew.now ≡ l.crew) × ((slice_index_or (vec_items l.workers) k d).promise.body.now ≡ l.body) × ((slice_index_or (vec_items l.workers) k d).promise.number ≡ k + 1);
}
