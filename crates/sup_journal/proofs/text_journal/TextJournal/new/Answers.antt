use Rattle.std.proofs.Common.{rules, ◌≡◌, [], refl}
use Rattle.std.specs.Io.KnownBytes.{Appends}
use Rattle.sup_format.specs.Writing.HistoryTexts.{header_line}
use Rattle.sup_journal.proofs.Recording.{begun}
use Rattle.sup_journal.proofs.text_journal.TextJournal.new.Goals as goal

pub returns-clause-ok : goal.returns-clause-ok
returns-clause-ok g c =
    let text : c.append_header.new.text.items ≡ header_line c.args.template.now = search rules in
    let took : Appends (g.W.Write.contents c.args.writer) (g.W.Write.contents c.send.new.writer) c.append_header.new.text.items = search rules in
    let it = begun g.O.Origin.held (g.W.Write.contents c.args.writer) (g.W.Write.contents c.send.new.writer) (header_line c.args.template.now) c.args.template.now [] c.requires (rw text at took) c.append_header.ensures.spelled in
    (refl, rw c.clear.ensures.items it)
