use Rattle.std.proofs.Common.{◌≡◌, ◌+◌, ◌-◌, ◌^◌, ℕ, List, [], Option}
use Rattle.sup_types.specs.declared.template.Template.{Template}
use Rattle.sup_format.specs.Reading.Streams.{IsStreamed}
use Rattle.sup_format.specs.Writing.HistoryTexts.{header_line}
use Rattle.sup_journal.proofs.opening.enter_all.Given as goal

abbrev pub invariant-loop-entry : goal.invariant-loop-entry
invariant-loop-entry g l = record {
  read : (initial : Option (List ℕ)) (t : Template) → IsStreamed initial l.fn.lines (header_line g.N.Name.template) t [] → IsStreamed initial l.lines (header_line g.N.Name.template) t l.recovery.history;
  handles : l.recovery.handles ≡ l.fn.recovery.handles;
}

abbrev pub decreases-loop-entry : goal.decreases-loop-entry
decreases-loop-entry g l = 2 ^ 62 + 1 - l.lines.next
