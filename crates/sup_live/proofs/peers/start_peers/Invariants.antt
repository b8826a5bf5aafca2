use Rattle.std.proofs.Common.{◌≡◌, ◌+◌, ◌≤◌}
use Rattle.std.specs.Prelude.{vec_len}
use Rattle.std.specs.Vec.{vec_capacity}
use Rattle.std.specs.Vec.Iter.{into_iter_len}
use Rattle.sup_live.proofs.peers.start_peers.Given as goal

abbrev pub invariant-loop-peer : goal.invariant-loop-peer
invariant-loop-peer g l = record {
  len : vec_len l.threads + into_iter_len l.peer-iterator ≡ vec_len l.fn.peers;
  room : vec_len l.fn.peers ≤ vec_capacity l.threads;
}
