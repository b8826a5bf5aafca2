use Rattle.std.proofs.Common.{subst}
use Rattle.std.proofs.lemmas.Result.{err_from_is_err_and}
use Rattle.sup_format.specs.Reading.Lines.{IsReading}
use Rattle.sup_format.specs.Reading.Words.{words_of}
use Rattle.sup_script.proofs.Running.LineByLine.{header_gives, header_fails, line_gives, line_bad}
use Rattle.sup_script.proofs.runs.session.answer_line.Goals as goal

pub returns-in_ok-first_supervisor-in-None-clause-given : goal.returns-in_ok-first_supervisor-in-None-clause-given
returns-in_ok-first_supervisor-in-None-clause-given g c = λ front text next s.
    let made = c.in_ok-first_supervisor-in-None.ensures in
    header_gives g.S.FixedStarter.answer front text c.args.line.now next c.args.out.now.items c.in_ok-first_supervisor-in-None.field-0 (rw c.in-None.is at s) made.0 made.1

pub returns-in_err-first_supervisor-in-None-clause-given : goal.returns-in_err-first_supervisor-in-None-clause-given
returns-in_err-first_supervisor-in-None-clause-given g c = λ front text next s.
    let p = err_from_is_err_and c.from_residual.result c.from_residual.ensures.1 in
    rw (p.1, p.2)
    (header_fails g.S.FixedStarter.answer front text c.args.line.now next c.args.out.now.items _ c.args.supervisor.now c.args.out.now.items (rw c.in-None.is at s) c.in_err-first_supervisor-in-None.ensures)

pub returns-in_ok-append_answer-in-Some-read_line-clause-given : goal.returns-in_ok-append_answer-in-Some-read_line-clause-given
returns-in_ok-append_answer-in-Some-read_line-clause-given g c = λ front text next s.
    let done = c.in_ok-append_answer-in-Some-read_line.ensures in
    line_gives g.S.FixedStarter.answer front text c.args.line.now next c.args.out.now.items c.in-Some-read_line.command c.in-Some.sup c.append_answer.new.sup c.append_answer.new.out.items (rw c.in-Some.is at s)
    (subst (IsReading (words_of c.args.line.now)) c.in-Some-read_line.is c.read_line.ensures) done.template done.text done.after

pub returns-in-None-read_line-clause-given : goal.returns-in-None-read_line-clause-given
returns-in-None-read_line-clause-given g c = λ front text next s.
    line_bad g.S.FixedStarter.answer front text c.args.line.now next c.args.out.now.items c.in-Some.sup (rw c.in-Some.is at s) (subst (IsReading (words_of c.args.line.now)) c.in-None-read_line.is c.read_line.ensures)
