use Rattle.std.proofs.Common.{rules, ap, arith}
use Rattle.sup_exits.proofs.Balancing.{splits_one}
use Rattle.sup_exits.proofs.ledger.Ledger.split.Goals as goal

pub split_seat-seat-requires : goal.split_seat-seat-requires
split_seat-seat-requires c =
    let mine = c.account.invariant.1 in
    let more = c.if-account-lt2.false in
    (search rules, search rules, splits_one _ _ _ (omega (arith, mine, more)))
