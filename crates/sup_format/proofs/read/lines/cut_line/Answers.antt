use Rattle.std.proofs.Common.{◌+◌, ◌-◌, drop, length, arith}
use Rattle.std.proofs.lemmas.List.{take_all, length-drop}
use Rattle.sup_format.proofs.Reading.Cuts.{first_found, first_missing}
use Rattle.sup_format.proofs.read.lines.cut_line.Goals as goal

pub returns-in_err-at : goal.returns-in_err-at
returns-in_err-at c = rw c.from_residual.ensures (first_missing 10 c.args.text.now c.in_err-at.ensures)

pub returns : goal.returns
returns c =
    let at = c.in_ok-at.at in
    let rest = drop (at + 1) c.args.text.now in
    rw (take_all (length c.args.text.now - (at + 1)) rest (omega (arith, length-drop (at + 1) c.args.text.now))) (first_found 10 c.args.text.now at c.in_ok-at.ensures.0 c.in_ok-at.ensures.1)
