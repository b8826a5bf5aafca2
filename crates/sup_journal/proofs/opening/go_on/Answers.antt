use Rattle.std.proofs.Common.{◌<◌, length, drop, Ok, inr, sym, subst, rules}
use Rattle.sup_types.specs.declared.template.Template.{Template}
use Rattle.std.proofs.KnownBytes.{starts_with_rest}
use Rattle.sup_format.specs.Writing.HistoryTexts.{header_line}
use Rattle.sup_journal.specs.Openings.{IsContinued}
use Rattle.sup_journal.proofs.Firsts.{begins_otherwise, begins_with}
use Rattle.std.proofs.lemmas.Result.{err_from_is_err_and}
use Rattle.sup_journal.proofs.Openings.{continued, first_wrong, other_ready, streamed_all}
use Rattle.sup_journal.proofs.opening.go_on.Goals as goal

pub returns-then-not-starts_with-clause-entries : goal.returns-then-not-starts_with-clause-entries
returns-then-not-starts_with-clause-entries g c = λ initial u.
    let lacks = begins_otherwise c.ready.result.now c.args.first.now c.starts_with.result c.starts_with.ensures.value c.if-not-starts_with.true in
    (u.given, c.args.lines.left, u.took, other_ready initial c.args.lines c.args.template.now u c.requires.spelled c.requires.ready (rw (c.ready.ensures, c.requires.first) at lacks))

pub returns-in_default-clause-entries : goal.returns-in_default-clause-entries
returns-in_default-clause-entries g c = λ initial u.
    let lacks = begins_otherwise c.ready.result.now c.args.first.now c.starts_with.result c.starts_with.ensures.value c.if-not-starts_with.true in
    (u.given, c.args.lines.left, u.took, other_ready initial c.args.lines c.args.template.now u c.requires.spelled c.requires.ready (rw (c.ready.ensures, c.requires.first) at lacks))

pub returns-after-torn-gt0-clause-has : goal.returns-after-torn-gt0-clause-has
returns-after-torn-gt0-clause-has g c = λ initial u.
    let header = header_line c.args.template.now in
    let begins = begins_with c.ready.result.now c.args.first.now c.starts_with.result c.starts_with.ensures.value c.if-not-starts_with.false in
    let starts = rw (c.ready.ensures, c.requires.first) at begins in
    let s = c.in-Ok.ensures.streamed initial header (drop (length header) c.args.lines.ready) u (starts_with_rest c.args.lines.ready header starts) in
    let all = c.in_ok-enter_all-in-Ok.ensures.entered initial c.in-Ok._read (rw c.requires.template at s) in
    let spelled = rw c.requires.template at c.requires.spelled in
    let text = streamed_all initial c.enter_all.new.lines g.N.Name.template c.in-Ok._read c.enter_all.new.recovery.history all.0 all.1 spelled in
    rw c.requires.template (c.reopen.ensures.has g.N.Name.template c.enter_all.new.recovery.history (all.0.whole, tt, text))

pub returns-after-torn-gt0-clause-entries : goal.returns-after-torn-gt0-clause-entries
returns-after-torn-gt0-clause-entries g c = λ initial u.
    let header = header_line c.args.template.now in
    let begins = begins_with c.ready.result.now c.args.first.now c.starts_with.result c.starts_with.ensures.value c.if-not-starts_with.false in
    let starts = rw (c.ready.ensures, c.requires.first) at begins in
    let s = c.in-Ok.ensures.streamed initial header (drop (length header) c.args.lines.ready) u (starts_with_rest c.args.lines.ready header starts) in
    let all = c.in_ok-enter_all-in-Ok.ensures.entered initial c.in-Ok._read (rw c.requires.template at s) in
    let spelled = rw c.requires.template at c.requires.spelled in
    subst (λ (t : Template). IsContinued initial t c.args.recovery.now.handles c.enter_all.new.recovery.history (Ok c.reopen.result)) (sym c.requires.template)
    (continued initial c.enter_all.new.lines g.N.Name.template c.args.recovery.now.handles c.in-Ok._read c.enter_all.new.recovery.history (Ok c.reopen.result) all.0 all.1 all.2 spelled (λ text torn. tt))

pub returns-in_err-enter_all-in-Ok-clause-entries : goal.returns-in_err-enter_all-in-Ok-clause-entries
returns-in_err-enter_all-in-Ok-clause-entries g c = λ initial u.
    let header = header_line c.args.template.now in
    let begins = begins_with c.ready.result.now c.args.first.now c.starts_with.result c.starts_with.ensures.value c.if-not-starts_with.false in
    let starts = rw (c.ready.ensures, c.requires.first) at begins in
    let s = c.in-Ok.ensures.streamed initial header (drop (length header) c.args.lines.ready) u (starts_with_rest c.args.lines.ready header starts) in
    let all = c.in_err-enter_all-in-Ok.ensures.entered initial c.in-Ok._read (rw c.requires.template at s) in
    let p = err_from_is_err_and c.from_residual.result c.from_residual.ensures.1 in
    subst (λ (t : Template). IsContinued initial t c.args.recovery.now.handles c.enter_all.new.recovery.history c.from_residual.result) (sym c.requires.template)
    (rw (p.1, p.2) (all.0, c.enter_all.new.lines.left, all.1, all.2))

pub returns-in_err-cut-in-Ok-clause-entries : goal.returns-in_err-cut-in-Ok-clause-entries
returns-in_err-cut-in-Ok-clause-entries g c = λ initial u.
    let header = header_line c.args.template.now in
    let begins = begins_with c.ready.result.now c.args.first.now c.starts_with.result c.starts_with.ensures.value c.if-not-starts_with.false in
    let starts = rw (c.ready.ensures, c.requires.first) at begins in
    let s = c.in-Ok.ensures.streamed initial header (drop (length header) c.args.lines.ready) u (starts_with_rest c.args.lines.ready header starts) in
    let all = c.in_ok-enter_all-in-Ok.ensures.entered initial c.in-Ok._read (rw c.requires.template at s) in
    let spelled = rw c.requires.template at c.requires.spelled in
    let p = err_from_is_err_and c.from_residual-in_err-cut-in-Ok.result c.from_residual-in_err-cut-in-Ok.ensures.1 in
    subst (λ (t : Template). IsContinued initial t c.args.recovery.now.handles c.enter_all.new.recovery.history c.from_residual-in_err-cut-in-Ok.result) (sym c.requires.template)
    (continued initial c.enter_all.new.lines g.N.Name.template c.args.recovery.now.handles c.in-Ok._read c.enter_all.new.recovery.history c.from_residual-in_err-cut-in-Ok.result all.0 all.1 all.2 spelled
    (λ text torn.
    let some : 0 < length c.enter_all.new.lines.torn = search rules in
    rw (p.1, p.2) (c.in_err-cut-in-Ok.ensures text g.N.Name.template c.args.recovery.now.handles (inr (torn some)))))

pub returns-in-Err-clause-entries : goal.returns-in-Err-clause-entries
returns-in-Err-clause-entries g c = λ initial u.
    let begins = begins_with c.ready.result.now c.args.first.now c.starts_with.result c.starts_with.ensures.value c.if-not-starts_with.false in
    let starts = rw (c.ready.ensures, c.requires.first) at begins in
    let stops = first_wrong initial c.args.lines c.args.template.now u c.requires.spelled starts c.in-Err.fault c.in-Err.ensures.stops in
    (u.given, c.args.lines.left, u.took, c.fault_of.ensures u.given c.args.template.now c.args.recovery.now.handles (rw c.in-Err.ensures.err stops))
