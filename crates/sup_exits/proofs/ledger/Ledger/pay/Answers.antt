use Rattle.std.proofs.Common.{rules, ap, arith}
use Rattle.sup_exits.proofs.Balancing.{pays_as}
use Rattle.sup_exits.proofs.ledger.Ledger.pay.Goals as goal

pub join_seat-requires : goal.join_seat-requires
join_seat-requires c =
    let part = c.requires.part in
    let same = ap (λ a. a.parts) c.account.view_is in
    let debt = c.debt.invariant in
    (search rules, search rules, search rules, search rules, pays_as _ _ _ _ _ _ (ap (λ m. m.0) debt) (omega (arith, part, same)))
