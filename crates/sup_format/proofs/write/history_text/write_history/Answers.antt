use Rattle.std.proofs.Common.{rules}
use Rattle.sup_format.specs.Writing.Replies.{line_of}
use Rattle.sup_format.specs.Reading.History.{first_words}
use Rattle.sup_format.proofs.Reading.HistoryLines.{written_more, all_more, written_all}
use Rattle.sup_format.proofs.write.history_text.write_history.Goals as goal

pub loop-entry-preserved : goal.loop-entry-preserved
loop-entry-preserved g c = record {
  text = written_more (line_of (first_words c.args.template.now)) c.loop-entry.text.items c.append_entry.new.text.items c.args.entries.now c.loop-entry.entry-index c.entry-item.result c.loop-entry-test.true c.entry-item.is c.loop-entry.invariant.text c.in_ok-append_entry.ensures.text;
  fits = all_more c.args.entries.now c.loop-entry.entry-index c.entry-item.result c.loop-entry-test.true c.entry-item.is c.loop-entry.invariant.fits c.in_ok-append_entry.ensures.fits;
}

pub returns : goal.returns
returns g c = written_all c.args.template.now c.args.entries.now c.loop-entry.entry-index c.loop-entry.text.items c.loop-entry-test.false c.loop-entry.invariant.fits c.loop-entry.invariant.text

pub loop-entry-init : goal.loop-entry-init
loop-entry-init g c = search rules
