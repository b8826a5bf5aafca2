use Rattle.std.proofs.Common.{◌≤◌, length, drop}
use Rattle.sup_format.specs.Reading.Words.{Lacks}
use Rattle.sup_format.proofs.read.lines.ended_part.Given as goal

abbrev pub invariant-loop-end : goal.invariant-loop-end
invariant-loop-end l = record { inside : l.end ≤ length l.text; unended : Lacks 10 (drop l.end l.text) }

abbrev pub decreases-loop-end : goal.decreases-loop-end
decreases-loop-end l = l.end
