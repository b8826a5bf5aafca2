use Rattle.std.proofs.Common.{rules, ap, ◌∙◌, arith, length, sym, ◌<◌, ◌-◌, ◌^◌}
use Rattle.sup_exits.proofs.Balancing.{learns_as, settled}
use Rattle.sup_exits.proofs.ledger.Ledger.settle.Goals as goal

pub load-requires : goal.load-requires
load-requires c =
    let mine = c.account.invariant.1 in
    let keyed = c.self.invariant.1 in
    let all = c.if-parts-lt-PARTS.false in
    (search rules, search rules, learns_as _ _ _ _ (omega (arith, mine, keyed, all)) (ap (λ m. m.1) c.account.invariant.0))

pub overflow_sub-owed : goal.overflow_sub-owed
overflow_sub-owed c =
    let made = c.account.invariant.2 in
    let not_all = c.if-made.false in
    let view = c.account.view_is in
    (settled c.args.account c.account.inside.seat.me.0 _ _ (ap (λ x. x.made) view) (ap (λ x. x.paid) view) made c.account.invariant.3 (omega (arith, made, not_all)) c.load.ensures.2.1).0

pub returns-clause-owed : goal.returns-clause-owed
returns-clause-owed c =
    let made = c.account.invariant.2 in
    let not_all = c.if-made.false in
    let view = c.account.view_is in
    (settled c.args.account c.account.inside.seat.me.0 _ _ (ap (λ x. x.made) view) (ap (λ x. x.paid) view) made c.account.invariant.3 (omega (arith, made, not_all)) c.load.ensures.2.1).1
