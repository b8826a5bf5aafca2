use Rattle.std.proofs.Common.{◌≡◌, ◌+◌, ◌-◌, ◌≤◌, [], length, take, drop, refl, sym, ap, append-nil, ◌∙◌, arith}
use Rattle.std.proofs.KnownBytes.{Keeps-refl}
use Rattle.std.proofs.lemmas.List.{length-take-le}
use Rattle.std.proofs.lemmas.Result.{err_from_is_err_and}
use Rattle.sup_format.specs.declared.fault.Fault.TheVariants as fault
use Rattle.sup_format.specs.Reading.Texts.{lines_of}
use Rattle.sup_script.proofs.Running.Causing.{lines_cause}
use Rattle.sup_format.specs.ReadingLaws.{calls_more, cut_parts, cut_past}
use Rattle.sup_script.proofs.Running.WholeRuns.{reading_stops, ends_faulty, ends_empty, ends_whole, read_more, too_long, piece_stops}
use Rattle.sup_script.proofs.runs.script.answer_pieces.Goals as goal

pub returns-then-is_err-clause-run : goal.returns-then-is_err-clause-run
returns-then-is_err-clause-run g c =
    reading_stops g.S.FixedStarter.answer (g.R.Read.remaining c.args.reader.now.reader) (g.R.Read.remaining c.loop-piece.reader.reader) (g.W.Write.contents c.args.session.now.outbox.writer.now.writer) (g.W.Write.contents c.loop-piece.session.outbox.writer.now.writer)
    c.loop-piece.part.items c.loop-piece.session.supervisor c.loop-piece.session.next c.loop-piece.reader.given c.loop-piece.invariant.so_far c.loop-piece.invariant.short
    (g.R.Read.remaining c.loop-piece.reader.reader) c.in_line.result fault.OutOfMemory (rw c.in_line.ensures refl) (rw c.in_line.ensures refl) (Keeps-refl (g.R.Read.remaining c.loop-piece.reader.reader)) refl

pub returns-in-None-clause-run : goal.returns-in-None-clause-run
returns-in-None-clause-run g c =
    reading_stops g.S.FixedStarter.answer (g.R.Read.remaining c.args.reader.now.reader) (g.R.Read.remaining c.loop-piece.reader.reader) (g.W.Write.contents c.args.session.now.outbox.writer.now.writer) (g.W.Write.contents c.loop-piece.session.outbox.writer.now.writer)
    c.loop-piece.part.items c.loop-piece.session.supervisor c.loop-piece.session.next c.loop-piece.reader.given c.loop-piece.invariant.so_far c.loop-piece.invariant.short
    (g.R.Read.remaining c.read.new.self.reader) c.in_line-in-None.result fault.ReadFault (rw c.in_line-in-None.ensures refl) (rw c.in_line-in-None.ensures refl) c.in-None.ensures.bytes.2 refl

pub returns-in_err-answer_lines-clause-run : goal.returns-in_err-answer_lines-clause-run
returns-in_err-answer_lines-clause-run g c =
    let r = c.loop-piece.invariant.so_far in
    let p = err_from_is_err_and c.from_residual.result c.from_residual.ensures.1 in
    rw (p.1, p.2)
    (ends_faulty g.S.FixedStarter.answer (g.R.Read.remaining c.args.reader.now.reader) (g.R.Read.remaining c.loop-piece.reader.reader) (g.W.Write.contents c.args.session.now.outbox.writer.now.writer) (g.W.Write.contents c.loop-piece.session.outbox.writer.now.writer)
    c.loop-piece.part.items c.loop-piece.session.supervisor c.loop-piece.session.next c.loop-piece.reader.given c.loop-piece.invariant.so_far c.loop-piece.invariant.short
    (g.R.Read.remaining c.read.new.self.reader) (g.W.Write.contents c.answer_lines.new.self.outbox.writer.now.writer) c.answer_lines.new.self.supervisor c.answer_lines.new.self.next (rw c.if-count-eq0.true at c.in-Some.ensures.bytes.3) (c.in-Some.ensures.bytes.4 c.if-count-eq0.true) _
    (rw (c.as_slice.ensures.value, c.reserve.ensures.items) at c.in_err-answer_lines.ensures.given (lines_of r.done) r.written r.so_far))

pub returns-then-session-eq1-clause-run : goal.returns-then-session-eq1-clause-run
returns-then-session-eq1-clause-run g c =
    let r = c.loop-piece.invariant.so_far in
    ends_empty g.S.FixedStarter.answer (g.R.Read.remaining c.args.reader.now.reader) (g.R.Read.remaining c.loop-piece.reader.reader) (g.W.Write.contents c.args.session.now.outbox.writer.now.writer) (g.W.Write.contents c.loop-piece.session.outbox.writer.now.writer)
    c.loop-piece.part.items c.loop-piece.session.supervisor c.loop-piece.session.next c.loop-piece.reader.given c.loop-piece.invariant.so_far c.loop-piece.invariant.short
    (g.R.Read.remaining c.read.new.self.reader) (g.W.Write.contents c.answer_lines.new.self.outbox.writer.now.writer) c.answer_lines.new.self.supervisor c.answer_lines.new.self.next (rw c.if-count-eq0.true at c.in-Some.ensures.bytes.3) (c.in-Some.ensures.bytes.4 c.if-count-eq0.true)
    c.in_line-then-session-eq1.result (rw c.in_line-then-session-eq1.ensures refl) (rw c.in_line-then-session-eq1.ensures refl) c.if-session-eq1.true (rw (c.as_slice.ensures.value, c.reserve.ensures.items) at c.in_ok-answer_lines.ensures.given (lines_of r.done) r.written r.so_far)

pub returns-then-count-eq0-clause-run : goal.returns-then-count-eq0-clause-run
returns-then-count-eq0-clause-run g c =
    let r = c.loop-piece.invariant.so_far in
    ends_whole g.S.FixedStarter.answer (g.R.Read.remaining c.args.reader.now.reader) (g.R.Read.remaining c.loop-piece.reader.reader) (g.W.Write.contents c.args.session.now.outbox.writer.now.writer) (g.W.Write.contents c.loop-piece.session.outbox.writer.now.writer)
    c.loop-piece.part.items c.loop-piece.session.supervisor c.loop-piece.session.next c.loop-piece.reader.given c.loop-piece.invariant.so_far c.loop-piece.invariant.short
    (g.R.Read.remaining c.read.new.self.reader) (g.W.Write.contents c.answer_lines.new.self.outbox.writer.now.writer) c.answer_lines.new.self.supervisor c.answer_lines.new.self.next (rw c.if-count-eq0.true at c.in-Some.ensures.bytes.3) (c.in-Some.ensures.bytes.4 c.if-count-eq0.true)
    c.if-session-eq1.false (rw (c.as_slice.ensures.value, c.reserve.ensures.items) at c.in_ok-answer_lines.ensures.given (lines_of r.done) r.written r.so_far)

pub returns-in_err-answer_piece-clause-run : goal.returns-in_err-answer_piece-clause-run
returns-in_err-answer_piece-clause-run g c =
    let r = c.loop-piece.invariant.so_far in
    let buf = c.read.new.piece in
    let count = c.in-Some.count in
    let room = 16777216 - c.given.result in
    let piece = take room buf in
    let kept : length piece ≡ room = length-take-le room buf (omega (arith, c.if-count-room.true, c.in-Some.ensures.bytes.0)) in
    let most : c.loop-piece.reader.given + length piece ≡ 16777216 = omega (arith, kept, c.given.ensures, c.loop-piece.invariant.short) in
    let p = err_from_is_err_and c.from_residual-in_err-answer_piece.result c.from_residual-in_err-answer_piece.ensures.1 in
    rw (p.1, p.2)
    (piece_stops g.S.FixedStarter.answer (g.R.Read.remaining c.args.reader.now.reader) (g.R.Read.remaining c.loop-piece.reader.reader) (g.W.Write.contents c.args.session.now.outbox.writer.now.writer) (g.W.Write.contents c.loop-piece.session.outbox.writer.now.writer)
    c.loop-piece.part.items c.loop-piece.session.supervisor c.loop-piece.session.next c.loop-piece.reader.given c.loop-piece.invariant.so_far c.loop-piece.invariant.short
    (g.R.Read.remaining c.read.new.self.reader) (g.W.Write.contents c.answer_piece.new.self.outbox.writer.now.writer) c.answer_piece.new.self.supervisor c.answer_piece.new.self.next piece c.answer_piece.new.part.items _ (take count buf) (drop room (take count buf))
    (rw c.reserve.ensures.items at c.in_err-answer_piece.ensures.given (lines_of r.done) r.written r.so_far)
    (cut_parts buf count room c.if-count-room.true) (omega (arith, most)) (λ _. most) c.in-Some.ensures.bytes.3)

pub returns-then-count-room-clause-run : goal.returns-then-count-room-clause-run
returns-then-count-room-clause-run g c =
    let r = c.loop-piece.invariant.so_far in
    let buf = c.read.new.piece in
    let count = c.in-Some.count in
    let room = 16777216 - c.given.result in
    let piece = take room buf in
    let kept : length piece ≡ room = length-take-le room buf (omega (arith, c.if-count-room.true, c.in-Some.ensures.bytes.0)) in
    let most : c.loop-piece.reader.given + length piece ≡ 16777216 = omega (arith, kept, c.given.ensures, c.loop-piece.invariant.short) in
    too_long g.S.FixedStarter.answer (g.R.Read.remaining c.args.reader.now.reader) (g.R.Read.remaining c.loop-piece.reader.reader) (g.W.Write.contents c.args.session.now.outbox.writer.now.writer) (g.W.Write.contents c.loop-piece.session.outbox.writer.now.writer)
    c.loop-piece.part.items c.loop-piece.session.supervisor c.loop-piece.session.next c.loop-piece.reader.given c.loop-piece.invariant.so_far c.loop-piece.invariant.short
    (g.R.Read.remaining c.read.new.self.reader) (g.W.Write.contents c.answer_piece.new.self.outbox.writer.now.writer) c.answer_piece.new.self.supervisor c.answer_piece.new.self.next piece c.answer_piece.new.part.items
    (rw c.reserve.ensures.items at c.in_ok-answer_piece.ensures.given (lines_of r.done) r.written r.so_far)
    c.in_line-then-count-room.result (take count buf) (drop room (take count buf)) (rw c.in_line-then-count-room.ensures refl) (rw c.in_line-then-count-room.ensures refl)
    (cut_parts buf count room c.if-count-room.true) (cut_past buf count room c.if-count-room.true c.in-Some.ensures.bytes.0) most c.in-Some.ensures.bytes.3

pub returns-in_err-answer_piece-2-clause-run : goal.returns-in_err-answer_piece-2-clause-run
returns-in_err-answer_piece-2-clause-run g c =
    let r = c.loop-piece.invariant.so_far in
    let buf = c.read.new.piece in
    let count = c.in-Some.count in
    let piece = take count buf in
    let kept : length piece ≡ count = length-take-le count buf c.in-Some.ensures.bytes.0 in
    let most : c.loop-piece.reader.given + length piece ≤ 16777216 = omega (arith, kept, c.given.ensures, c.loop-piece.invariant.short, c.if-count-room.false) in
    let p = err_from_is_err_and c.from_residual-in_err-answer_piece-2.result c.from_residual-in_err-answer_piece-2.ensures.1 in
    rw (p.1, p.2)
    (piece_stops g.S.FixedStarter.answer (g.R.Read.remaining c.args.reader.now.reader) (g.R.Read.remaining c.loop-piece.reader.reader) (g.W.Write.contents c.args.session.now.outbox.writer.now.writer) (g.W.Write.contents c.loop-piece.session.outbox.writer.now.writer)
    c.loop-piece.part.items c.loop-piece.session.supervisor c.loop-piece.session.next c.loop-piece.reader.given c.loop-piece.invariant.so_far c.loop-piece.invariant.short
    (g.R.Read.remaining c.read.new.self.reader) (g.W.Write.contents c.answer_piece-in-loop-piece.new.self.outbox.writer.now.writer) c.answer_piece-in-loop-piece.new.self.supervisor c.answer_piece-in-loop-piece.new.self.next piece c.answer_piece-in-loop-piece.new.part.items _ piece []
    (rw c.reserve.ensures.items at c.in_err-answer_piece-2.ensures.given (lines_of r.done) r.written r.so_far)
    (sym (append-nil piece)) most (λ some. absurd (omega arith)) c.in-Some.ensures.bytes.3)

pub loop-piece-preserved : goal.loop-piece-preserved
loop-piece-preserved g c =
    let r = c.loop-piece.invariant.so_far in
    let buf = c.read.new.piece in
    let count = c.in-Some.count in
    let piece = take count buf in
    let kept : length piece ≡ count = length-take-le count buf c.in-Some.ensures.bytes.0 in
    let total : c.read.new.self.given ≡ c.loop-piece.reader.given + length piece = omega (arith, kept, c.in-Some.ensures.bytes.2) in
    let same : length c.reserve.new.self.items ≡ length c.loop-piece.part.items = ap length c.reserve.ensures.items in
    record {
      so_far = rw total (read_more g.S.FixedStarter.answer (g.R.Read.remaining c.args.reader.now.reader) (g.R.Read.remaining c.loop-piece.reader.reader) (g.W.Write.contents c.args.session.now.outbox.writer.now.writer) (g.W.Write.contents c.loop-piece.session.outbox.writer.now.writer)
          c.loop-piece.part.items c.loop-piece.session.supervisor c.loop-piece.session.next c.loop-piece.reader.given c.loop-piece.invariant.so_far c.loop-piece.invariant.short
          (g.R.Read.remaining c.read.new.self.reader) (g.W.Write.contents c.answer_piece-in-loop-piece.new.self.outbox.writer.now.writer) c.answer_piece-in-loop-piece.new.self.supervisor c.answer_piece-in-loop-piece.new.self.next piece c.answer_piece-in-loop-piece.new.part.items
          (rw c.reserve.ensures.items at c.in_ok-answer_piece-2.ensures.given (lines_of r.done) r.written r.so_far) c.in-Some.ensures.bytes.3);
      short = omega (arith, total, kept, c.given.ensures, c.loop-piece.invariant.short, c.if-count-room.false);
      calls = omega (arith, c.loop-piece.invariant.calls, c.in-Some.ensures.calls, c.in-Some.ensures.bytes.2, c.if-count-eq0.false);
      first = c.in_ok-answer_piece-2.ensures.first;
      lines = omega (arith, total, same, c.in_ok-answer_piece-2.ensures.lines, c.loop-piece.invariant.lines);
      steps = omega (arith, total, same, c.in_ok-answer_piece-2.ensures.steps, c.loop-piece.invariant.steps);
      bytes = c.in_ok-answer_piece-2.ensures.bytes;
      ends = c.in_ok-answer_piece-2.ensures.ends;
      same = c.answer_piece-in-loop-piece.ensures.same ∙ c.loop-piece.invariant.same;
    }

pub returns-then-is_err-clause-cause : goal.returns-then-is_err-clause-cause
returns-then-is_err-clause-cause g c = rw c.in_line.ensures tt

pub returns-in-None-clause-cause : goal.returns-in-None-clause-cause
returns-in-None-clause-cause g c = rw c.in_line-in-None.ensures c.in-None.ensures.bytes.0

pub returns-in_err-answer_lines-clause-cause : goal.returns-in_err-answer_lines-clause-cause
returns-in_err-answer_lines-clause-cause g c =
    let p = err_from_is_err_and c.from_residual.result c.from_residual.ensures.1 in
    rw (p.1, p.2) (lines_cause c.read.new.self.has_failed c.read.new.self.given c.answer_lines.new.self.outbox.writer.now.has_refused _ c.in_err-answer_lines.ensures.cause)

pub returns-then-session-eq1-clause-cause : goal.returns-then-session-eq1-clause-cause
returns-then-session-eq1-clause-cause g c = rw c.in_line-then-session-eq1.ensures tt

pub returns-in_err-answer_piece-clause-cause : goal.returns-in_err-answer_piece-clause-cause
returns-in_err-answer_piece-clause-cause g c =
    let p = err_from_is_err_and c.from_residual-in_err-answer_piece.result c.from_residual-in_err-answer_piece.ensures.1 in
    rw (p.1, p.2) (lines_cause c.read.new.self.has_failed c.read.new.self.given c.answer_piece.new.self.outbox.writer.now.has_refused _ c.in_err-answer_piece.ensures.cause)

pub returns-in_err-answer_piece-2-clause-cause : goal.returns-in_err-answer_piece-2-clause-cause
returns-in_err-answer_piece-2-clause-cause g c =
    let p = err_from_is_err_and c.from_residual-in_err-answer_piece-2.result c.from_residual-in_err-answer_piece-2.ensures.1 in
    rw (p.1, p.2) (lines_cause c.read.new.self.has_failed c.read.new.self.given c.answer_piece-in-loop-piece.new.self.outbox.writer.now.has_refused _ c.in_err-answer_piece-2.ensures.cause)

pub returns-in-None-clause-reads : goal.returns-in-None-clause-reads
returns-in-None-clause-reads g c = calls_more _ _ _ c.loop-piece.invariant.calls c.loop-piece.invariant.short c.in-None.ensures.calls

pub returns-in_err-answer_lines-clause-reads : goal.returns-in_err-answer_lines-clause-reads
returns-in_err-answer_lines-clause-reads g c = calls_more _ _ _ c.loop-piece.invariant.calls c.loop-piece.invariant.short c.in-Some.ensures.calls

pub returns-then-session-eq1-clause-reads : goal.returns-then-session-eq1-clause-reads
returns-then-session-eq1-clause-reads g c = calls_more _ _ _ c.loop-piece.invariant.calls c.loop-piece.invariant.short c.in-Some.ensures.calls

pub returns-then-count-eq0-clause-reads : goal.returns-then-count-eq0-clause-reads
returns-then-count-eq0-clause-reads g c = calls_more _ _ _ c.loop-piece.invariant.calls c.loop-piece.invariant.short c.in-Some.ensures.calls

pub returns-in_err-answer_piece-clause-reads : goal.returns-in_err-answer_piece-clause-reads
returns-in_err-answer_piece-clause-reads g c = calls_more _ _ _ c.loop-piece.invariant.calls c.loop-piece.invariant.short c.in-Some.ensures.calls

pub returns-then-count-room-clause-reads : goal.returns-then-count-room-clause-reads
returns-then-count-room-clause-reads g c = calls_more _ _ _ c.loop-piece.invariant.calls c.loop-piece.invariant.short c.in-Some.ensures.calls

pub returns-in_err-answer_piece-2-clause-reads : goal.returns-in_err-answer_piece-2-clause-reads
returns-in_err-answer_piece-2-clause-reads g c = calls_more _ _ _ c.loop-piece.invariant.calls c.loop-piece.invariant.short c.in-Some.ensures.calls

pub returns-then-is_err-clause-reads : goal.returns-then-is_err-clause-reads
returns-then-is_err-clause-reads g c = omega (arith, c.loop-piece.invariant.calls, c.loop-piece.invariant.short)
