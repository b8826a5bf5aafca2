use Rattle.std.proofs.Common.{◌-◌, arith}
use Rattle.std.proofs.lemmas.Result.{err_from_is_err_and}
use Rattle.sup_format.specs.ReadingLaws.{calls_more}
use Rattle.sup_format.proofs.Reading.WholeTexts.{read_too_long}
use Rattle.sup_format.proofs.read.input.read_whole.Goals as goal

pub returns-then-count-room-clause-read : goal.returns-then-count-room-clause-read
returns-then-count-room-clause-read g c =
    let room = 16777216 - c.given.result in
    read_too_long (g.R.Read.remaining c.args.reader.now.reader) (g.R.Read.remaining c.loop-reader.reader.reader) (g.R.Read.remaining c.read.new.self.reader) c.loop-reader.text.items c.read.new.piece c.extend_from_slice.new.self.items c.loop-reader.reader.given c.in-Some.count room
    c.loop-reader.invariant.took c.loop-reader.invariant.count (omega (arith, c.given.ensures, c.loop-reader.invariant.short)) c.if-count-room.true c.in-Some.ensures.bytes.0 (rw (c.unwrap.ensures, c.reserve.ensures.items) at c.extend_from_slice.ensures.items) c.in-Some.ensures.bytes.3

pub returns-in_err-reserve-clause-cause : goal.returns-in_err-reserve-clause-cause
returns-in_err-reserve-clause-cause g c =
    let p = err_from_is_err_and c.from_residual.result c.from_residual.ensures.1 in
    rw (p.1, p.2) tt

pub returns-in-None-clause-cause : goal.returns-in-None-clause-cause
returns-in-None-clause-cause g c = c.in-None.ensures.bytes.0

pub returns-in-None-clause-reads : goal.returns-in-None-clause-reads
returns-in-None-clause-reads g c = calls_more _ _ _ c.loop-reader.invariant.calls c.loop-reader.invariant.short c.in-None.ensures.calls

pub returns-then-count-eq0-clause-reads : goal.returns-then-count-eq0-clause-reads
returns-then-count-eq0-clause-reads g c = calls_more _ _ _ c.loop-reader.invariant.calls c.loop-reader.invariant.short c.in-Some.ensures.calls

pub returns-then-count-room-clause-reads : goal.returns-then-count-room-clause-reads
returns-then-count-room-clause-reads g c = calls_more _ _ _ c.loop-reader.invariant.calls c.loop-reader.invariant.short c.in-Some.ensures.calls

pub returns-in_err-reserve-clause-reads : goal.returns-in_err-reserve-clause-reads
returns-in_err-reserve-clause-reads g c = omega (arith, c.loop-reader.invariant.calls, c.loop-reader.invariant.short)
