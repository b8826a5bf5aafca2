use Rattle.std.proofs.Common.{rules, ap, arith}
use Rattle.sup_exits.proofs.Balancing.{makes}
use Rattle.sup_exits.proofs.ledger.Ledger.make_by.Goals as goal

pub split_seat-seat-requires : goal.split_seat-seat-requires
split_seat-seat-requires g c =
    let part = c.requires.part in
    let same = ap (λ a. a.parts) c.account.view_is in
    (search rules, search rules, makes _ _ _ _ (omega (arith, part, same)))
