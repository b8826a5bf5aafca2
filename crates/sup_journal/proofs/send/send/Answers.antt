use Rattle.std.proofs.Common.{◌-◌, length, drop, arith}
use Rattle.std.proofs.lemmas.List.{take_all, length-drop}
use Rattle.sup_journal.proofs.Recording.{taken_more, took_part}
use Rattle.sup_journal.proofs.send.send.Goals as goal

pub loop-taken-preserved : goal.loop-taken-preserved
loop-taken-preserved g c =
    let bytes = c.args.bytes.now in
    let taken = c.loop-taken.taken in
    let rest = drop taken bytes in
    let all = take_all (length bytes - taken) rest (omega (arith, length-drop taken bytes)) in
    let low = rw all at c.in-Ok.ensures.bound in
    let took = rw all at c.in-Ok.ensures.bytes in
    record {
      inside = omega (arith, low, length-drop taken bytes, c.loop-taken.invariant.inside);
      wrote = taken_more _ _ _ bytes taken c.in-Ok.count c.loop-taken.invariant.wrote took;
    }

pub returns-in-Err : goal.returns-in-Err
returns-in-Err g c = (tt, took_part _ _ _ c.args.bytes.now c.loop-taken.taken c.loop-taken-test.true c.loop-taken.invariant.wrote c.in-Err.ensures.bytes)
