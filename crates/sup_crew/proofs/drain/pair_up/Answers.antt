use Rattle.std.proofs.Common.{rules}
use Rattle.std.specs.Prelude.{vec_items}
use Rattle.std.specs.Vec.Iter.{into_iter_items}
use Rattle.arrayvec.specs.Iter.{drain_items}
use Rattle.sup_crew.proofs.DrainLemmas.{notes-next, replies-next}
use Rattle.sup_crew.proofs.drain.pair_up.Goals as goal

pub loop-note-preserved : goal.loop-note-preserved
loop-note-preserved c =
    let i = c.loop-note.invariant in
    let steps = c.in-Some.ensures.steps in
    record {
      step = search rules;
      ends = search rules;
      keeps = search rules;
      notes = notes-next (vec_items c.loop-note.pairs) (vec_items c.push_reserved.new.self) (drain_items c.loop-note.note-iterator) (drain_items c.next.new.self) (drain_items c.into_iter-note-iterator.result) c.in-Some.note c.in-Some-next.reply c.push_reserved.ensures.items steps.0 i.notes;
      replies = replies-next (vec_items c.loop-note.pairs) (vec_items c.push_reserved.new.self) (into_iter_items c.loop-note.rest) (into_iter_items c.next-in-loop-note.new.self) (vec_items c.args.replies) c.in-Some.note c.in-Some-next.reply c.push_reserved.ensures.items c.in-Some-next.ensures.items i.replies;
      room = search rules;
    }
