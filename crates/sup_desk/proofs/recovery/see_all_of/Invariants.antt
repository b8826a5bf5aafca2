use Rattle.std.proofs.Common.{◌≡◌}
use Rattle.sup_desk.specs.Audits.{AreGrown, HaveSeenAll}
use Rattle.sup_desk.proofs.recovery.see_all_of.Given as goal

-- the callers so far have seen all of the history, and the book is as it was
abbrev pub invariant-loop-caller : goal.invariant-loop-caller
invariant-loop-caller g l = record {
  book : l.book ≡ l.fn.book;
  grown : AreGrown l.initial.callers l.callers;
  seen : HaveSeenAll l.fn.book.history l.callers l.caller-index;
}
