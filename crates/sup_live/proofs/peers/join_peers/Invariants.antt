use Rattle.std.proofs.Common.{◌≡◌, ◌+◌, ◌≤◌}
use Rattle.std.specs.Prelude.{vec_len}
use Rattle.std.specs.Vec.{vec_capacity}
use Rattle.std.specs.Vec.Iter.{into_iter_len}
use Rattle.sup_live.proofs.peers.join_peers.Given as goal

abbrev pub invariant-loop-thread : goal.invariant-loop-thread
invariant-loop-thread g l = record {
  len : vec_len l.outcomes + into_iter_len l.thread-iterator ≡ vec_len l.fn.threads;
  room : vec_len l.fn.threads ≤ vec_capacity l.outcomes;
}
