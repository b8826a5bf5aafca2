use Rattle.sup_script.proofs.Running.Causing.{lines_causes}
use Rattle.sup_script.proofs.Running.WholeReplays.{read_cause, input_faulty, text_replayed}
use Rattle.sup_script.proofs.runs.replays.replay.Goals as goal

pub returns-clause-replay : goal.returns-clause-replay
returns-clause-replay g c =
    rw c.note_line.ensures.reader
    (text_replayed (g.R.Read.remaining c.args.reader.now.reader) (g.R.Read.remaining c.read_whole.new.reader.reader) (g.W.Write.contents c.args.writer.now.writer) c.read_whole.new.text.items c.in_default.ensures.read
    (g.W.Write.contents c.replay_text-outcome.new.writer.writer) c.replay_text-outcome.result (rw c.as_slice-2.ensures.value at c.replay_text-outcome.ensures.given))

pub returns-clause-cause : goal.returns-clause-cause
returns-clause-cause g c =
    rw (c.note_line.ensures.failed, c.note_line.ensures.calls.1)
    (lines_causes c.read_whole.new.reader.has_failed c.read_whole.new.reader.given c.replay_text-outcome.new.writer.has_refused c.replay_text-outcome.result c.replay_text-outcome.ensures.cause)

pub returns-in-Err-clause-cause : goal.returns-in-Err-clause-cause
returns-in-Err-clause-cause g c = rw c.in_line.ensures (read_cause c.read_whole.new.reader.has_failed c.read_whole.new.reader.given c.args.writer.now.has_refused c.in-Err.fault c.in-Err.ensures.cause)

pub returns-in-Err-clause-replay : goal.returns-in-Err-clause-replay
returns-in-Err-clause-replay g c =
    rw c.in_line.ensures (input_faulty (g.R.Read.remaining c.args.reader.now.reader) (g.R.Read.remaining c.read_whole.new.reader.reader) (g.W.Write.contents c.args.writer.now.writer) c.read_whole.new.text.items c.in-Err.fault c.line_after.result
    c.in-Err.ensures.read (rw c.as_slice.ensures.value at c.line_after.ensures))
