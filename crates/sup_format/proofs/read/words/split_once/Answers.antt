use Rattle.std.proofs.Common.{◌+◌, ◌-◌, drop, length, sym, arith}
use Rattle.std.proofs.lemmas.List.{take_all, length-drop}
use Rattle.sup_format.proofs.Reading.Cuts.{split_found, split_missing}
use Rattle.sup_format.proofs.read.words.split_once.Goals as goal

pub returns-in_err-at : goal.returns-in_err-at
returns-in_err-at c = rw c.from_residual.ensures (split_missing c.args.byte c.args.bytes.now (sym c.in_err-at.ensures))

pub returns : goal.returns
returns c =
    let at = c.in_ok-at.at in
    let rest = drop (at + 1) c.args.bytes.now in
    rw (take_all (length c.args.bytes.now - (at + 1)) rest (omega (arith, length-drop (at + 1) c.args.bytes.now))) (split_found c.args.byte c.args.bytes.now at (sym c.in_ok-at.ensures))
