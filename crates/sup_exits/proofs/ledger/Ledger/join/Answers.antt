use Rattle.std.proofs.Common.{rules, ap, ◌∙◌}
use Rattle.sup_exits.proofs.Balancing.{joins_all, bounds_as}
use Rattle.sup_exits.proofs.ledger.Ledger.join.Goals as goal

pub join_seat-requires : goal.join_seat-requires
join_seat-requires c = (search rules, search rules, search rules, search rules, joins_all _ _ _ _ _)

pub load-requires : goal.load-requires
load-requires c = (search rules, search rules, bounds_as _ _ _ _ c.self.invariant.1 (search rules))
