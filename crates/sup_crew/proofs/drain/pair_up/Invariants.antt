use Rattle.std.proofs.Common.{◌≡◌, ◌+◌, ◌≤◌, ◌++◌, length}
use Rattle.std.specs.Prelude.{vec_items, vec_len}
use Rattle.std.specs.Vec.{vec_capacity}
use Rattle.std.specs.Vec.Iter.{into_iter_items, into_iter_len}
use Rattle.arrayvec.specs.Iter.{drain_items, DrainKeeps}
use Rattle.sup_crew.specs.Drains.{notes_of, replies_of}
use Rattle.sup_crew.proofs.drain.pair_up.Given as goal

abbrev pub invariant-loop-note : goal.invariant-loop-note
invariant-loop-note l = record {
  step : (goal.iterator-loop-note).can_next l.note-iterator;
  ends : (goal.iterator-loop-note).is_finite l.note-iterator;
  keeps : DrainKeeps l.initial.note-iterator l.note-iterator;
  notes : notes_of (vec_items l.pairs) ++ drain_items l.note-iterator ≡ drain_items l.initial.note-iterator;
  replies : replies_of (vec_items l.pairs) ++ into_iter_items l.rest ≡ vec_items l.fn.replies;
  room : (vec_len l.pairs + into_iter_len l.rest ≤ vec_capacity l.pairs) × (into_iter_len l.rest ≡ length (drain_items l.note-iterator));
}
