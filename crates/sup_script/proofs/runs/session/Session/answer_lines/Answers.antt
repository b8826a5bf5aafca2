use Rattle.std.proofs.Common.{◌≡◌, ◌+◌, [], length, ap, refl, ◌∙◌, arith}
use Rattle.std.proofs.lemmas.Result.{err_from_is_err_and}
use Rattle.std.proofs.lemmas.Bool.Decides.{nat_tests}
use Rattle.sup_format.specs.Reading.Texts.{lines_of}
use Rattle.sup_script.proofs.Running.Causing.{line_cause}
use Rattle.sup_format.specs.LineLaws.{lines-none}
use Rattle.sup_script.proofs.Running.LineByLine.{partly_none, partly_more, partly_passed, partly_torn, partly_stops, partly_ends, few_left}
use Rattle.sup_script.proofs.runs.session.Session.answer_lines.Goals as goal

pub loop-rest-init : goal.loop-rest-init
loop-rest-init g c = record {
  so_far = λ front text s. partly_none g.S.FixedStarter.answer front text (lines_of c.args.input.now) (g.W.Write.contents c.args.self.now.outbox.writer.now.writer) c.args.self.now.supervisor c.args.self.now.next
      c.args.self.now.outbox.bytes.items c.args.self.now.outbox.ends.items c.requires.bytes c.requires.ends s;
  same = refl;
  few_ends = let none = ap length c.requires.ends in omega (arith, none, c.requires.first);
  few_lines = omega arith;
  few_steps = omega (arith, c.requires.steps);
  steps = omega arith;
}

pub returns-in_err-flush-clause-given : goal.returns-in_err-flush-clause-given
returns-in_err-flush-clause-given g c = λ front text s.
    let p = err_from_is_err_and c.from_residual.result c.from_residual.ensures.1 in
    rw (p.1, p.2)
    (partly_torn g.S.FixedStarter.answer front text (lines_of c.args.input.now) (g.W.Write.contents c.args.self.now.outbox.writer.now.writer) (lines_of c.loop-rest.rest.now)
    c.loop-rest.self.outbox.bytes.items c.loop-rest.self.outbox.ends.items c.loop-rest.self.supervisor (g.W.Write.contents c.loop-rest.self.outbox.writer.now.writer) c.loop-rest.self.next (c.loop-rest.invariant.so_far front text s)
    (g.W.Write.contents c.flush.new.self.writer.now.writer) _ (rw (c.in-Err.ensures.bytes, c.in-Err.ensures.ends, c.in-Err.ensures.next, c.in-Err.ensures.writer) at c.in_err-flush.ensures.flushed))

pub returns-in-Err-clause-given : goal.returns-in-Err-clause-given
returns-in-Err-clause-given g c = λ front text s.
    let so_far = c.loop-rest.invariant.so_far front text s in
    rw (c.in_line.ensures, c.in-Err.ensures.next)
    (partly_stops g.S.FixedStarter.answer front text (lines_of c.args.input.now) (g.W.Write.contents c.args.self.now.outbox.writer.now.writer) (lines_of c.loop-rest.rest.now)
    c.loop-rest.self.outbox.bytes.items c.loop-rest.self.outbox.ends.items c.loop-rest.self.supervisor (g.W.Write.contents c.loop-rest.self.outbox.writer.now.writer) c.loop-rest.self.next so_far
    c.first_line.result.0.now (lines_of c.first_line.result.1.now) c.answer_next.new.self.supervisor (g.W.Write.contents c.flush.new.self.writer.now.writer) c.answer_next.new.self.outbox.bytes.items c.in-Err.fault c.first_line.ensures.lines
    (rw (c.in-Err.ensures.bytes, c.in-Err.ensures.writer) at c.in_ok-flush.ensures.flushed.2) (c.in-Err.ensures.given _ _ so_far.waits))

pub returns-in_err-flush_if_full-clause-given : goal.returns-in_err-flush_if_full-clause-given
returns-in_err-flush_if_full-clause-given g c = λ front text s.
    let so_far = c.loop-rest.invariant.so_far front text s in
    let p = err_from_is_err_and c.from_residual-in_err-flush_if_full.result c.from_residual-in_err-flush_if_full.ensures.1 in
    let more = partly_more g.S.FixedStarter.answer front text (lines_of c.args.input.now) (g.W.Write.contents c.args.self.now.outbox.writer.now.writer) (lines_of c.loop-rest.rest.now)
    c.loop-rest.self.outbox.bytes.items c.loop-rest.self.outbox.ends.items c.loop-rest.self.supervisor (g.W.Write.contents c.loop-rest.self.outbox.writer.now.writer) c.loop-rest.self.next so_far
    c.first_line.result.0.now (lines_of c.first_line.result.1.now) c.answer_next.new.self.outbox.bytes.items c.answer_next.new.self.outbox.ends.items c.answer_next.new.self.supervisor c.first_line.ensures.lines
    (c.in_default.ensures.given _ _ so_far.waits) in
    rw (p.1, p.2)
    (partly_torn g.S.FixedStarter.answer front text (lines_of c.args.input.now) (g.W.Write.contents c.args.self.now.outbox.writer.now.writer) (lines_of c.first_line.result.1.now)
    c.answer_next.new.self.outbox.bytes.items c.answer_next.new.self.outbox.ends.items c.answer_next.new.self.supervisor (g.W.Write.contents c.loop-rest.self.outbox.writer.now.writer) (c.loop-rest.self.next + 1) more
    (g.W.Write.contents c.flush_if_full.new.self.writer.now.writer) _ (rw (c.in_default.ensures.next, c.in_default.ensures.writer) at c.in_err-flush_if_full.ensures.flushed))

pub loop-rest-preserved : goal.loop-rest-preserved
loop-rest-preserved g c = record {
  so_far = λ front text s.
      let so_far = c.loop-rest.invariant.so_far front text s in
      let more = partly_more g.S.FixedStarter.answer front text (lines_of c.args.input.now) (g.W.Write.contents c.args.self.now.outbox.writer.now.writer) (lines_of c.loop-rest.rest.now)
      c.loop-rest.self.outbox.bytes.items c.loop-rest.self.outbox.ends.items c.loop-rest.self.supervisor (g.W.Write.contents c.loop-rest.self.outbox.writer.now.writer) c.loop-rest.self.next so_far
      c.first_line.result.0.now (lines_of c.first_line.result.1.now) c.answer_next.new.self.outbox.bytes.items c.answer_next.new.self.outbox.ends.items c.answer_next.new.self.supervisor c.first_line.ensures.lines
      (c.in_default.ensures.given _ _ so_far.waits) in
      rw c.in_default.ensures.next
      (partly_passed g.S.FixedStarter.answer front text (lines_of c.args.input.now) (g.W.Write.contents c.args.self.now.outbox.writer.now.writer) (lines_of c.first_line.result.1.now)
      c.answer_next.new.self.outbox.bytes.items c.answer_next.new.self.outbox.ends.items c.answer_next.new.self.supervisor (g.W.Write.contents c.loop-rest.self.outbox.writer.now.writer) (c.loop-rest.self.next + 1) more
      (g.W.Write.contents c.flush_if_full.new.self.writer.now.writer) c.flush_if_full.new.self.bytes.items c.flush_if_full.new.self.ends.items (rw c.in_default.ensures.writer at c.in_ok-flush_if_full.ensures.flushed));
  same = c.flush_if_full.ensures.same ∙ c.in_default.ensures.same ∙ c.loop-rest.invariant.same;
  few_ends = few_left _ _ _ _ _ _ _ c.in_ok-flush_if_full.ensures.flushed (omega (arith, c.in_default.ensures.more, c.in_default.ensures.next, c.loop-rest.invariant.few_ends));
  few_lines = omega (arith, c.first_line.ensures.shorter, c.in_default.ensures.next, c.loop-rest.invariant.few_lines);
  few_steps = omega (arith, c.first_line.ensures.shorter, c.in_default.ensures.steps, c.loop-rest.invariant.few_steps);
  steps = omega (arith, c.first_line.ensures.shorter, c.in_default.ensures.steps, c.loop-rest.invariant.steps);
}

pub returns-clause-given : goal.returns-clause-given
returns-clause-given g c = λ front text s.
    let none : length c.loop-rest.rest.now ≡ 0 = grind (arith, nat_tests) in
    let all : lines_of c.loop-rest.rest.now ≡ [] = lines-none c.loop-rest.rest.now none in
    partly_ends g.S.FixedStarter.answer front text (lines_of c.args.input.now) (g.W.Write.contents c.args.self.now.outbox.writer.now.writer)
    c.loop-rest.self.outbox.bytes.items c.loop-rest.self.outbox.ends.items c.flush-2.new.self.bytes.items c.flush-2.new.self.ends.items c.loop-rest.self.supervisor (g.W.Write.contents c.loop-rest.self.outbox.writer.now.writer) (g.W.Write.contents c.flush-2.new.self.writer.now.writer) c.loop-rest.self.next
    c.flush-2.result (rw all at c.loop-rest.invariant.so_far front text s) c.flush-2.ensures.flushed

pub returns-in_err-flush-clause-cause : goal.returns-in_err-flush-clause-cause
returns-in_err-flush-clause-cause g c =
    let p = err_from_is_err_and c.from_residual.result c.from_residual.ensures.1 in
    rw (p.1, p.2) c.in_err-flush.ensures.cause

pub returns-in-Err-clause-cause : goal.returns-in-Err-clause-cause
returns-in-Err-clause-cause g c = rw c.in_line.ensures (line_cause _ _ c.in-Err.ensures.fault)

pub returns-in_err-flush_if_full-clause-cause : goal.returns-in_err-flush_if_full-clause-cause
returns-in_err-flush_if_full-clause-cause g c =
    let p = err_from_is_err_and c.from_residual-in_err-flush_if_full.result c.from_residual-in_err-flush_if_full.ensures.1 in
    rw (p.1, p.2) c.in_err-flush_if_full.ensures.cause

pub returns-clause-cause : goal.returns-clause-cause
returns-clause-cause g c = c.flush-2.ensures.cause
