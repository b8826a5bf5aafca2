use Rattle.std.proofs.Common.{◌≡◌}
use mathlib.Core.List.{IsPrefix}
use Rattle.sup_crew.proofs.turns.read_turns.Given as goal

abbrev pub invariant-loop : goal.invariant-loop
invariant-loop g l = record {
  count : l.answered ≡ l.counter;
  front : IsPrefix l.fn.handle.front l.handle.front;
  calls : (l.handle.calls ≡ l.fn.handle.calls) × (l.handle.number ≡ l.fn.handle.number);
}
