use Rattle.std.proofs.Common.{◌≡◌, ◌++◌, take}
use Rattle.std.specs.List.{flat_map}
use Rattle.sup_format.specs.Writing.Replies.{line_of}
use Rattle.sup_format.specs.Reading.History.{first_words}
use Rattle.sup_format.specs.Writing.HistoryTexts.{entry_line}
use Rattle.sup_format.proofs.Reading.HistoryLines.{AllEntries}
use Rattle.sup_format.proofs.write.history_text.write_history.Given as goal

abbrev pub invariant-loop-entry : goal.invariant-loop-entry
invariant-loop-entry g l = record {
  text : l.text.items ≡ line_of (first_words l.fn.template) ++ flat_map entry_line (take l.entry-index l.entries);
  fits : AllEntries (take l.entry-index l.entries);
}
