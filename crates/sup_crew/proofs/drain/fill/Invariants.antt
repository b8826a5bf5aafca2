use Rattle.std.proofs.Common.{◌≡◌, List, ◌++◌}
use Rattle.sup_inbox.specs.declared.note.Note.{Note}
use Rattle.sup_crew.proofs.drain.fill.Given as goal

abbrev pub invariant-loop : goal.invariant-loop
invariant-loop g l = record {
  same : (l.taker.inbox ≡ l.initial.taker.inbox) × (l.taker.posters ≡ l.initial.taker.posters);
  held : (entered : List Note) → l.initial.taker.taken ≡ entered ++ l.initial.held.items → l.taker.taken ≡ entered ++ l.held.items;
}
