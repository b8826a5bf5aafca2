use Rattle.std.proofs.Common.{refl, inr}
use Rattle.sup_journal.proofs.Firsts.{begins_otherwise, begins_with}
use Rattle.sup_journal.proofs.Openings.{other_torn, unbegun, unbegun_cause}
use Rattle.sup_journal.proofs.opening.begin.Goals as goal

pub returns-then-not-starts_with-clause-entries : goal.returns-then-not-starts_with-clause-entries
returns-then-not-starts_with-clause-entries g c = λ initial handles u end.
    let lacks = begins_otherwise c.args.first.now c.torn.result.now c.starts_with.result c.starts_with.ensures.value c.if-not-starts_with.true in
    (u.given, c.args.lines.left, u.took, other_torn initial c.args.lines c.args.template.now u c.requires.spelled c.requires.none (rw (c.requires.first, c.torn.ensures) at lacks))

pub returns-in-Ok-clause-entries : goal.returns-in-Ok-clause-entries
returns-in-Ok-clause-entries g c = λ initial handles u end.
    let starts = begins_with c.args.first.now c.torn.result.now c.starts_with.result c.starts_with.ensures.value c.if-not-starts_with.false in
    (u.given, c.args.lines.left, u.took, (end, inr (unbegun initial c.args.lines c.args.template.now u c.requires.spelled c.requires.none (rw (c.requires.first, c.torn.ensures) at starts), refl)))

pub returns-in-Err-clause-entries : goal.returns-in-Err-clause-entries
returns-in-Err-clause-entries g c = λ initial handles u end.
    let starts = begins_with c.args.first.now c.torn.result.now c.starts_with.result c.starts_with.ensures.value c.if-not-starts_with.false in
    let is_unbegun = unbegun initial c.args.lines c.args.template.now u c.requires.spelled c.requires.none (rw (c.requires.first, c.torn.ensures) at starts) in
    (u.given, c.args.lines.left, u.took, unbegun_cause c.in-Err.not_begun.fault _ _ u.given c.args.template.now handles c.in-Err.ensures.err is_unbegun)
