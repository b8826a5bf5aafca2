use Rattle.sup_crew.proofs.Driven.{same_trans, at_work}
use Rattle.sup_crew.proofs.driver.Driver.drain_all.Goals as goal

pub returns-then-is_some-2-clause-drained : goal.returns-then-is_some-2-clause-drained
returns-then-is_some-2-clause-drained g c before begun driven = c.drain_once-count.ensures.drained before begun (c.loop.invariant.drained before begun driven)

pub returns-then-is_some-2-clause-same : goal.returns-then-is_some-2-clause-same
returns-then-is_some-2-clause-same g c = same_trans c.args.self.now c.loop.self c.drain_once-count.new.self c.loop.invariant.same c.drain_once-count.ensures.same

pub returns-then-is_some-2-clause-cause : goal.returns-then-is_some-2-clause-cause
returns-then-is_some-2-clause-cause g c = c.drain_once-count.ensures.cause

pub loop-preserved-then-count-gt0 : goal.loop-preserved-then-count-gt0
loop-preserved-then-count-gt0 g c =
    let i = c.loop.invariant in
    let e = c.drain_once-count.ensures in
    let new = c.drain_once-count.new.self in
    record {
      same = same_trans c.args.self.now c.loop.self new i.same e.same;
      at_work = at_work c.args.crew.now.jobs c.args.crew.now.inbox.id c.loop.self new e.same i.at_work;
      drained = λ before begun driven. e.drained before begun (i.drained before begun driven);
    }

pub loop-preserved-then-not-is_over : goal.loop-preserved-then-not-is_over
loop-preserved-then-not-is_over g c =
    let i = c.loop.invariant in
    let e = c.drain_once-count.ensures in
    let new = c.drain_once-count.new.self in
    record {
      same = same_trans c.args.self.now c.loop.self new i.same e.same;
      at_work = at_work c.args.crew.now.jobs c.args.crew.now.inbox.id c.loop.self new e.same i.at_work;
      drained = λ before begun driven. e.drained before begun (i.drained before begun driven);
    }

pub loop-preserved : goal.loop-preserved
loop-preserved g c =
    let i = c.loop.invariant in
    let e = c.drain_once-count.ensures in
    let new = c.drain_once-count.new.self in
    record {
      same = same_trans c.args.self.now c.loop.self new i.same e.same;
      at_work = at_work c.args.crew.now.jobs c.args.crew.now.inbox.id c.loop.self new e.same i.at_work;
      drained = λ before begun driven. e.drained before begun (i.drained before begun driven);
    }
