use Rattle.std.proofs.Common.{◌≡◌, ◌++◌, [], ◌∷◌, length, refl, ap, ◌∙◌, arith, inl}
use Rattle.std.proofs.KnownBytes.{Appends-nil}
use Rattle.std.proofs.lemmas.Bool.Decides.{nat_tests}
use Rattle.std.proofs.lemmas.List.{length-append}
use Rattle.std.proofs.lemmas.Result.{err_from_is_err_and}
use Rattle.sup_format.specs.HistorySteps.{read_more, split_length}
use Rattle.sup_format.specs.declared.fault.Fault.TheVariants as fault
use Rattle.sup_core.specs.State.{State}
use Rattle.sup_script.proofs.Running.Replaying.{bad_line_kind, replayed_none, replayed_more, replayed_bad, replayed_torn, replayed_stops, replayed_ends}
use Rattle.sup_script.proofs.runs.replays.answer_from.Goals as goal

pub loop-rest-init : goal.loop-rest-init
loop-rest-init g c = record {
  so_far = λ text read. replayed_none text c.args.rest.now c.args.outbox.now.bytes.items c.args.outbox.now.ends.items c.args.sup.now c.requires.bytes c.requires.ends c.requires.empty read;
  writer = refl;
  same = refl;
  template = refl;
  few = omega arith;
  few_ends = let none = ap length c.requires.ends in omega (arith, none);
  few_steps = let none : c.args.sup.now.steps ≡ 0 = ap (λ (s : State). s.steps) c.requires.empty.state in omega (arith, none);
}

pub returns-in_default-clause-given : goal.returns-in_default-clause-given
returns-in_default-clause-given g c = λ text read.
    rw (c.in_line.ensures, c.loop-rest.invariant.writer)
    (replayed_bad text c.loop-rest.rest.now c.args.sup.now.template c.loop-rest.outbox.bytes.items c.loop-rest.outbox.ends.items c.loop-rest.sup c.loop-rest.next (c.loop-rest.invariant.so_far text read)
    (g.W.Write.contents c.args.outbox.now.writer.now.writer) (grind (arith, nat_tests)) c.in_default.ensures)

pub returns-in_err-check_entries-clause-given : goal.returns-in_err-check_entries-clause-given
returns-in_err-check_entries-clause-given g c = λ text read.
    let now = c.loop-rest.invariant.so_far text read in
    let found = c.in-Some.ensures in
    let p = err_from_is_err_and c.from_residual.result c.from_residual.ensures.1 in
    let more = read_more text c.loop-rest.rest.now c.args.sup.now.template now.entries c.loop-rest.next now.read found.0 c.in-Some.after.now c.in-Some.entry found.1 found.2 in
    rw (p.1, p.2, c.in-Err.ensures.writer, c.loop-rest.invariant.writer)
    (inl (c.in_err-check_entries.ensures.stops text c.args.sup.now.template (now.entries ++ c.in-Some.entry ∷ []) more, bad_line_kind _ c.in_err-check_entries.ensures.fault, Appends-nil (g.W.Write.contents c.args.outbox.now.writer.now.writer)))

pub returns-in_err-flush-clause-given : goal.returns-in_err-flush-clause-given
returns-in_err-flush-clause-given g c = λ text read.
    let now = c.loop-rest.invariant.so_far text read in
    let found = c.in-Some.ensures in
    let p = err_from_is_err_and c.from_residual-in_err-flush.result c.from_residual-in_err-flush.ensures.1 in
    let more = read_more text c.loop-rest.rest.now c.args.sup.now.template now.entries c.loop-rest.next now.read found.0 c.in-Some.after.now c.in-Some.entry found.1 found.2 in
    let all = c.in_ok-check_entries.ensures.stops text c.args.sup.now.template (now.entries ++ c.in-Some.entry ∷ []) more in
    rw (p.1, p.2)
    (replayed_torn text c.loop-rest.rest.now c.args.sup.now.template c.loop-rest.outbox.bytes.items c.loop-rest.outbox.ends.items c.loop-rest.sup c.loop-rest.next now
    (g.W.Write.contents c.args.outbox.now.writer.now.writer) (g.W.Write.contents c.flush.new.self.writer.now.writer) all.0 _ all.1
    (rw (c.in-Err.ensures.same_bytes, c.in-Err.ensures.same_ends, c.in-Err.ensures.writer, c.loop-rest.invariant.writer) at c.in_err-flush.ensures.flushed))

pub returns-in-Err-clause-given : goal.returns-in-Err-clause-given
returns-in-Err-clause-given g c = λ text read.
    let now = c.loop-rest.invariant.so_far text read in
    let found = c.in-Some.ensures in
    let more = read_more text c.loop-rest.rest.now c.args.sup.now.template now.entries c.loop-rest.next now.read found.0 c.in-Some.after.now c.in-Some.entry found.1 found.2 in
    let all = c.in_ok-check_entries.ensures.stops text c.args.sup.now.template (now.entries ++ c.in-Some.entry ∷ []) more in
    rw c.in_line-in-Err.ensures
    (replayed_stops text c.loop-rest.rest.now c.args.sup.now.template c.loop-rest.outbox.bytes.items c.loop-rest.outbox.ends.items c.loop-rest.sup c.loop-rest.next now
    (g.W.Write.contents c.args.outbox.now.writer.now.writer) (g.W.Write.contents c.flush.new.self.writer.now.writer) all.0 found.0 c.in-Some.after.now (record { fault = fault.OutOfMemory; line = c.loop-rest.next }) found.1 all.1 refl refl
    (rw (c.in-Err.ensures.same_bytes, c.in-Err.ensures.writer, c.loop-rest.invariant.writer) at c.in_ok-flush.ensures.flushed.2))

pub loop-rest-preserved : goal.loop-rest-preserved
loop-rest-preserved g c =
    let found = c.in-Some.ensures in
    let len = split_length c.loop-rest.rest.now found.0 c.in-Some.after.now found.1 in
    let marked = ap length c.in_default-answer_entry.ensures.ends in
    record {
      so_far = λ text read.
          replayed_more text c.loop-rest.rest.now c.args.sup.now.template c.loop-rest.outbox.bytes.items c.loop-rest.outbox.ends.items c.loop-rest.sup c.loop-rest.next (c.loop-rest.invariant.so_far text read)
          found.0 c.in-Some.after.now c.in-Some.entry found.1 found.2 c.answer_entry.new.sup c.answer_entry.new.outbox.bytes.items c.answer_entry.new.outbox.ends.items
          c.in_default-answer_entry.ensures.reply c.in_default-answer_entry.ensures.after c.in_default-answer_entry.ensures.template c.in_default-answer_entry.ensures.ends;
      writer = c.in_default-answer_entry.ensures.writer ∙ c.loop-rest.invariant.writer;
      same = c.in_default-answer_entry.ensures.same ∙ c.loop-rest.invariant.same;
      template = c.in_default-answer_entry.ensures.template ∙ c.loop-rest.invariant.template;
      few = omega (arith, len, c.loop-rest.invariant.few);
      few_ends = omega (arith, marked, length-append c.loop-rest.outbox.ends.items (length c.answer_entry.new.outbox.bytes.items ∷ []), c.loop-rest.invariant.few_ends);
      few_steps = omega (arith, c.in_default-answer_entry.ensures.steps, c.loop-rest.invariant.few_steps);
    }

pub returns-clause-given : goal.returns-clause-given
returns-clause-given g c = λ text read.
    replayed_ends text c.loop-rest.rest.now c.args.sup.now.template c.loop-rest.outbox.bytes.items c.loop-rest.outbox.ends.items c.loop-rest.sup c.loop-rest.next (c.loop-rest.invariant.so_far text read)
    (g.W.Write.contents c.args.outbox.now.writer.now.writer) (g.W.Write.contents c.flush-2.new.self.writer.now.writer) c.flush-2.new.self.bytes.items c.flush-2.new.self.ends.items c.flush-2.result (grind (arith, nat_tests))
    (rw c.loop-rest.invariant.writer at c.flush-2.ensures.flushed)
