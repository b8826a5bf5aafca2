use Rattle.std.proofs.Common.{◌∙◌}
use Rattle.sup_format.proofs.Reading.Entries.{lacks_split, no_entry_in}
use Rattle.sup_format.proofs.read.history.next_entry.Goals as goal

pub returns-in_err-line : goal.returns-in_err-line
returns-in_err-line c = rw c.from_residual.ensures (λ line more split. absurd (lacks_split 10 c.args.rest.now line more c.in_err-line.ensures split))

pub returns-in_err-entry : goal.returns-in_err-entry
returns-in_err-entry c = rw c.from_residual-in_err-entry.ensures (no_entry_in c.args.rest.now c.in_ok-line.line.now c.in_ok-line.after.now c.in_ok-line.ensures (λ e m. c.in_err-entry.ensures e m.fits (c.new.ensures ∙ m.words)))
