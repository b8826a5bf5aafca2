use Rattle.std.proofs.Common.{◌-◌, ◌<◌, [], ◌∷◌, length, ap, ◌∙◌, arith}
use Rattle.std.proofs.lemmas.List.{length-append}
use Rattle.std.proofs.lemmas.Result.{err_from_is_err_and}
use Rattle.sup_script.proofs.Running.Journaling.{answering_cut, answering_ends, answering_more, answering_passed, answering_refused, answering_stops}
use Rattle.sup_script.proofs.Running.LineByLine.{few_left}
use Rattle.sup_script.proofs.runs.journal.answer_all.Goals as goal

pub returns-in_err-flush_if_full-clause-answered : goal.returns-in_err-flush_if_full-clause-answered
returns-in_err-flush_if_full-clause-answered g c = λ initial s.
    let a = c.loop-lines.invariant.so_far initial s in
    let p = err_from_is_err_and c.from_residual.result c.from_residual.ensures.1 in
    rw (p.1, p.2) (answering_cut initial c.loop-lines.lines c.args.sup.now.template _ _ _ _ c.loop-lines.sup a c.loop-lines.lines a.read _ _ _ (rw c.line-line.ensures.line at c.in_err-flush_if_full.ensures.flushed) c.in_err-flush_if_full.ensures.cause)

pub returns-in-Err-answer_entry-clause-answered : goal.returns-in-Err-answer_entry-clause-answered
returns-in-Err-answer_entry-clause-answered g c = λ initial s.
    let a = answering_passed initial c.loop-lines.lines c.args.sup.now.template _ _ _ _ _ _ _ c.loop-lines.sup (c.loop-lines.invariant.so_far initial s) c.in_ok-flush_if_full.ensures.flushed in
    let found = rw c.in-Ok-Some.field-0-is at (c.in-Ok-Some.ensures.read initial [] c.args.sup.now.template a.entries a.read) in
    answering_refused initial c.loop-lines.lines c.args.sup.now.template _ _ _ _ c.loop-lines.sup a c.next.new.self c.in-Ok-Some.entry found _ _ c.stop.result
    (rw (c.in-Err-answer_entry.ensures.same_bytes, c.in-Err-answer_entry.ensures.same_ends, c.in-Err-answer_entry.ensures.writer, c.line-line.ensures.line) at c.stop.ensures.stopped)

pub loop-lines-preserved : goal.loop-lines-preserved
loop-lines-preserved g c =
    let next = rw c.in-Ok-Some.field-0-is at c.in-Ok-Some.ensures.line in
    let few : length c.flush_if_full.new.self.ends.items < c.loop-lines.lines.next - 1 = few_left _ _ _ _ _ _ _ c.in_ok-flush_if_full.ensures.flushed (omega (arith, c.loop-lines.invariant.few_ends)) in
    let marked = ap length c.in_default.ensures.ends in
    record {
      so_far = λ initial s.
          let a = answering_passed initial c.loop-lines.lines c.args.sup.now.template _ _ _ _ _ _ _ c.loop-lines.sup (c.loop-lines.invariant.so_far initial s) c.in_ok-flush_if_full.ensures.flushed in
          let found = rw c.in-Ok-Some.field-0-is at (c.in-Ok-Some.ensures.read initial [] c.args.sup.now.template a.entries a.read) in
          rw c.in_default.ensures.writer
          (answering_more initial c.loop-lines.lines c.args.sup.now.template _ _ _ _ c.loop-lines.sup a c.next.new.self c.in-Ok-Some.entry found c.answer_entry.new.sup _ _
          c.in_default.ensures.reply c.in_default.ensures.after c.in_default.ensures.template c.in_default.ensures.ends);
      same = c.in_default.ensures.same ∙ c.flush_if_full.ensures.same ∙ c.loop-lines.invariant.same;
      template = c.in_default.ensures.template ∙ c.loop-lines.invariant.template;
      few_ends = omega (arith, next, few, marked, length-append c.flush_if_full.new.self.ends.items (length c.answer_entry.new.outbox.bytes.items ∷ []));
      steps = omega (arith, next, c.in_default.ensures.steps, c.loop-lines.invariant.steps);
    }

pub returns-in-Ok-None-clause-answered : goal.returns-in-Ok-None-clause-answered
returns-in-Ok-None-clause-answered g c = λ initial s.
    let a = answering_passed initial c.loop-lines.lines c.args.sup.now.template _ _ _ _ _ _ _ c.loop-lines.sup (c.loop-lines.invariant.so_far initial s) c.in_ok-flush_if_full.ensures.flushed in
    let found = rw c.in-Ok-None.field-0-is at (c.in-Ok-None.ensures.read initial [] c.args.sup.now.template a.entries a.read) in
    answering_ends initial c.loop-lines.lines c.args.sup.now.template _ _ _ _ c.loop-lines.sup a c.next.new.self found.0 found.1 found.2 _ _ _ _ c.flush.result (rw c.line-line.ensures.line at c.flush.ensures.flushed) c.flush.ensures.cause

pub returns-in-Err-clause-answered : goal.returns-in-Err-clause-answered
returns-in-Err-clause-answered g c = λ initial s.
    let a = answering_passed initial c.loop-lines.lines c.args.sup.now.template _ _ _ _ _ _ _ c.loop-lines.sup (c.loop-lines.invariant.so_far initial s) c.in_ok-flush_if_full.ensures.flushed in
    let found = c.in-Err.ensures.read initial [] c.args.sup.now.template a.entries a.read in
    answering_stops initial c.loop-lines.lines c.args.sup.now.template _ _ _ _ c.loop-lines.sup a c.next.new.self c.in-Err.fault found _ _ c.stop-in-Err.result (rw c.line-line.ensures.line at c.stop-in-Err.ensures.stopped)
