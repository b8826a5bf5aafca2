use Rattle.std.proofs.Common.{◌≡◌}
use Rattle.sup_desk.specs.Audits.{AreGrown, HaveSeenAll}
use Rattle.sup_desk.proofs.laws.audit.Given as goal

-- the handles so far have seen all of the history, and the book is as it was
abbrev pub invariant-loop-handle : goal.invariant-loop-handle
invariant-loop-handle g l = record {
  book : l.book ≡ l.fn.book;
  grown : AreGrown l.initial.handles l.handles;
  seen : HaveSeenAll l.fn.book.history l.handles l.handle-index;
}
