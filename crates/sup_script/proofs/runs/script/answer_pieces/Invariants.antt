use Rattle.std.proofs.Common.{◌≡◌, ◌+◌, ◌-◌, ◌≤◌, ◌^◌, [], length}
use Rattle.sup_script.specs.Running.Answering.{steps_left}
use Rattle.sup_script.proofs.Running.WholeRuns.{IsReadTo}
use Rattle.sup_script.proofs.runs.script.answer_pieces.Given as goal

abbrev pub invariant-loop-piece : goal.invariant-loop-piece
invariant-loop-piece g l = record {
  so_far : IsReadTo g.S.FixedStarter.answer (g.R.Read.remaining l.initial.reader.reader) (g.R.Read.remaining l.reader.reader) (g.W.Write.contents l.initial.session.outbox.writer.now.writer) (g.W.Write.contents l.session.outbox.writer.now.writer) l.part.items l.session.supervisor l.session.next l.reader.given;
  short : l.reader.given ≤ 16777216;
  calls : l.reader.calls ≤ l.reader.given;
  first : 1 ≤ l.session.next;
  lines : l.session.next + length l.part.items ≤ l.reader.given + 1;
  steps : 2 ^ 62 + length l.part.items ≤ steps_left l.session.supervisor + l.reader.given;
  bytes : l.session.outbox.bytes.items ≡ [];
  ends : l.session.outbox.ends.items ≡ [];
  same : l.session.outbox.writer.ghost_name ≡ l.initial.session.outbox.writer.ghost_name;
}

abbrev pub decreases-loop-piece : goal.decreases-loop-piece
decreases-loop-piece g l = 16777216 - l.reader.given
