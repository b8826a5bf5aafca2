use Rattle.std.proofs.Common.{◌≤◌, ◌-◌, length, take}
use Rattle.std.specs.Io.KnownBytes.{Appends}
use Rattle.sup_journal.proofs.send.send.Given as goal

abbrev pub invariant-loop-taken : goal.invariant-loop-taken
invariant-loop-taken g l = record {
  inside : l.taken ≤ length l.bytes;
  wrote : Appends (g.W.Write.contents l.initial.writer) (g.W.Write.contents l.writer) (take l.taken l.bytes);
}

abbrev pub decreases-loop-taken : goal.decreases-loop-taken
decreases-loop-taken g l = length l.bytes - l.taken
