use Rattle.std.proofs.Common.{rules, ap}
use Rattle.sup_desk.proofs.Enrolling.{opens_as}
use Rattle.sup_desk.proofs.sessions.SessionRegistry.open.Goals as goal

pub split_seat-seat-requires : goal.split_seat-seat-requires
split_seat-seat-requires c = (search rules, search rules, opens_as _ _ _ _ (ap (λ m. m.0) c.self.invariant.2))
