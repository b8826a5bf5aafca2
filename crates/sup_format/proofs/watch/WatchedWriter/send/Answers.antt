use Rattle.std.proofs.Common.{◌-◌, length, drop, arith}
use Rattle.std.proofs.lemmas.List.{take_all, length-drop}
use Rattle.sup_format.proofs.Writing.Sending.{taken_more}
use Rattle.sup_format.proofs.watch.WatchedWriter.send.Goals as goal

pub loop-taken-preserved : goal.loop-taken-preserved
loop-taken-preserved g c =
    let bytes = c.args.bytes.now in
    let taken = c.loop-taken.taken in
    let rest = drop taken bytes in
    let all = take_all (length bytes - taken) rest (omega (arith, length-drop taken bytes)) in
    let took = rw all at c.in-Some.ensures in
    record {
      inside = omega (arith, took.1, length-drop taken bytes, c.loop-taken.invariant.inside);
      wrote = taken_more _ _ _ bytes taken c.in-Some.count c.loop-taken.invariant.wrote took.3;
    }
