use Rattle.std.proofs.Common.{◌≡◌, ◌+◌, ◌<◌, ◌≤◌, ◌++◌}
use Rattle.std.specs.Prelude.{vec_items, vec_len}
use Rattle.std.specs.Vec.{vec_capacity}
use Rattle.std.specs.Vec.Iter.{into_iter_items, into_iter_len}
use Rattle.sup_crew.specs.Joins.{AreEndpoints, posters_of, taken_of, unposted_of}
use Rattle.sup_crew.proofs.closing.collect.Given as goal

abbrev pub invariant-loop-one : goal.invariant-loop-one
invariant-loop-one g l = record {
  endpoint : (l.endpoint.queue ≡ l.jobs) × (l.endpoint.permission.parts + into_iter_len l.one-iterator ≡ l.fn.endpoint.permission.parts + vec_len l.fn.finished) × (l.endpoint.permission.put ≡ l.fn.endpoint.permission.put) × (0 < l.endpoint.permission.parts);
  taken : l.endpoint.permission.taken ++ taken_of (into_iter_items l.one-iterator) ≡ l.fn.endpoint.permission.taken ++ taken_of (vec_items l.fn.finished);
  endpoints : AreEndpoints l.jobs (into_iter_items l.one-iterator);
  posters : vec_items l.posters ++ posters_of (into_iter_items l.one-iterator) ≡ posters_of (vec_items l.fn.finished);
  unposted : vec_items l.unposted ++ unposted_of (into_iter_items l.one-iterator) ≡ unposted_of (vec_items l.fn.finished);
  room : (vec_len l.posters + into_iter_len l.one-iterator ≤ vec_capacity l.posters) × (vec_len l.unposted + into_iter_len l.one-iterator ≤ vec_capacity l.unposted);
}
