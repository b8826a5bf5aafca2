use Rattle.std.proofs.Common.{rules}
use Rattle.std.specs.Io.KnownBytes.{Appends}
use Rattle.sup_journal.proofs.Recording.{begun}
use Rattle.sup_journal.proofs.text_journal.TextJournal.resume.Goals as goal

pub returns-clause-ok : goal.returns-clause-ok
returns-clause-ok g c =
    let took : Appends (g.W.Write.contents c.args.writer) (g.W.Write.contents c.send.new.writer) c.in-Ok.before.items = search rules in
    let it = begun g.O.Origin.held (g.W.Write.contents c.args.writer) (g.W.Write.contents c.send.new.writer) c.in-Ok.before.items c.args.template.now c.args.entries.now c.requires took c.in-Ok.ensures in
    c.reopen.ensures.has c.args.template.now c.args.entries.now (it.text, it.took, it.spelled)
