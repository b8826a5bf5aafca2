use Rattle.std.proofs.Common.{rules}
use Rattle.sup_live.proofs.Telling.{accounted}
use Rattle.sup_live.proofs.hub.Hub.settle.Goals as goal

pub loop-queue-init : goal.loop-queue-init
loop-queue-init g c =
    let t = c.tell.ensures in
    record {
      endings = t.endings;
      paid = t.paid c.args.account.paid (search rules);
      same = search rules;
    }

pub loop-queue-preserved : goal.loop-queue-preserved
loop-queue-preserved g c =
    let i = c.loop-queue.invariant in
    let t = c.tell-in-loop-queue.ensures in
    record {
      endings = t.endings;
      paid = t.paid c.args.account.paid i.paid;
      same = search rules;
    }

pub returns-clause-account : goal.returns-clause-account
returns-clause-account g c = accounted _ _ _ _ _ _ c.loop-queue.invariant.same.2 c.loop-queue.invariant.paid c.settle.ensures.owed
