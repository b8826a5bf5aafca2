use Rattle.std.proofs.Common.{◌≡◌, List, ◌++◌}
use Rattle.sup_exits.specs.declared.exit.Child.{Child}
use Rattle.sup_exits.specs.Endings.{AreEndings}
use Rattle.sup_exits.specs.Exits.{children_of}
use Rattle.sup_live.proofs.hub.tell.Given as goal

abbrev pub invariant-loop : goal.invariant-loop
invariant-loop g l = record {
  endings : AreEndings g.P.Office.may_end l.told.items;
  paid : (others : List Child) → l.fn.account.paid ≡ others ++ children_of l.fn.told.items → l.account.paid ≡ others ++ children_of l.told.items;
  same : (l.account.ledger ≡ g.P.Office.ledger) × (l.account.parts ≡ l.fn.account.parts) × (l.account.made ≡ l.fn.account.made);
}
