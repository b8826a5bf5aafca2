use Rattle.std.proofs.Common.{◌≡◌, ◌≤◌, ◌-◌, None, vec_len, vec_capacity}
use Rattle.sup_desk.specs.Audits.{AreNumbered}
use Rattle.sup_desk.proofs.recovery.Recovery.open_to.Given as goal

-- handles were made, and nothing else has changed
abbrev pub invariant-opening : goal.invariant-opening
invariant-opening g l = record {
  same : (l.self-inside.book.history ≡ l.fn.self.history) × (l.self-inside.book.handles ≡ l.fn.self.handles);
  going : l.self-inside.book.fault ≡ None;
  made : l.self-inside.book.made ≡ vec_len l.self-inside.callers;
  room : l.self-inside.book.handles ≤ vec_capacity l.self-inside.callers;
  numbered : AreNumbered l.self-inside.callers.items;
}

abbrev pub decreases-opening : goal.decreases-opening
decreases-opening g l = l.number - vec_len l.self-inside.callers
