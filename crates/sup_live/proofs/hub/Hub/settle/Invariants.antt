use Rattle.std.proofs.Common.{◌≡◌, ◌<◌, ◌++◌}
use Rattle.sup_exits.specs.Endings.{AreEndings}
use Rattle.sup_exits.specs.Exits.{children_of}
use Rattle.sup_live.proofs.hub.Hub.settle.Given as goal

abbrev pub invariant-loop-queue : goal.invariant-loop-queue
invariant-loop-queue g l = record {
  endings : AreEndings g.P.Office.may_end l.left.items;
  paid : l.account.paid ≡ l.fn.account.paid ++ children_of l.left.items;
  same : (l.account.ledger ≡ g.P.Office.ledger) × (0 < l.account.parts) × (l.account.made ≡ l.fn.account.made);
}
