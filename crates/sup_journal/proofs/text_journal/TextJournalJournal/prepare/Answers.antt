use Rattle.std.proofs.Common.{rules, ◌≡◌, ◌++◌}
use Rattle.sup_format.specs.Writing.HistoryTexts.{entry_line, SpellsOneMore}
use Rattle.sup_journal.proofs.Recording.{prepared, of_ok}
use Rattle.sup_journal.proofs.text_journal.TextJournalJournal.prepare.Goals as goal

pub returns-clause-ok : goal.returns-clause-ok
returns-clause-ok g c =
    let line = entry_line c.args.entry.now in
    let text : c.append_entry.new.text.items ≡ c.args.self.now.text.items ++ line = search rules in
    let more : SpellsOneMore line c.args.entry.now = of_ok c.append_entry.result (search rules) c.append_entry.ensures.spelled in
    λ template recorded ready h. (h.0, rw text (prepared _ _ _ template recorded ready h.1 line c.args.entry.now more))
