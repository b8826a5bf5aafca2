use Rattle.std.proofs.Common.{rules, length, ap, ◌∙◌, arith}
use Rattle.sup_desk.specs.EntryLaws.{entries_le}
use Rattle.sup_desk.specs.Knowledge.{entries_of}
use Rattle.sup_desk.proofs.Enrolling.{spares, takes_as, enters_as, hands}
use Rattle.sup_desk.proofs.sessions.SessionRegistry.enter.Goals as goal

pub split_seat-spare-requires : goal.split_seat-spare-requires
split_seat-spare-requires g c = (search rules, search rules, spares _ _)

pub join_seat-requires : goal.join_seat-requires
join_seat-requires g c =
    let known = ap (λ m. m.0) c.split_seat-spare.ensures.2 ∙ ap (λ m. m.0) c.self.invariant.2 in
    let tokens = ap (λ s. s.me.0.is_token) c.replace-seat.ensures.value ∙ ap (λ m. m.0.is_token) c.token.invariant.0 in
    (search rules, search rules, search rules, search rules, takes_as _ _ _ _ _ _ known tokens)

pub load-requires : goal.load-requires
load-requires g c =
    let known = ap (λ m. m.0) c.split_seat-spare.ensures.2 ∙ ap (λ m. m.0) c.self.invariant.2 in
    let tokens = ap (λ s. s.me.0.is_token) c.replace-seat.ensures.value ∙ ap (λ m. m.0.is_token) c.token.invariant.0 in
    let both = c.join_seat.ensures.2 in
    let knows = ap (λ m. m.0.keeps) both ∙ ap (λ v. v.keeps) known in
    let has = ap (λ m. m.0.is_token) both ∙ tokens in
    let nothing = ap (λ m. m.1) both ∙ ap (λ m. m.1) c.split_seat-spare.ensures.2 ∙ ap (λ m. m.1) c.self.invariant.2 in
    let number = ap (λ m. m.0.number) both ∙ ap (λ s. s.me.0.number) c.replace-seat.ensures.value ∙ ap (λ m. m.0.number) c.token.invariant.0 ∙ ap (λ k. k.number) c.token.view_is in
    (search rules, search rules, enters_as _ _ _ _ knows has (ap (λ n. entries_of g.E.Added.entries n) number ∙ c.requires.mine) nothing)

pub split_seat-requires : goal.split_seat-requires
split_seat-requires g c =
    let known = ap (λ m. m.0) c.split_seat-spare.ensures.2 ∙ ap (λ m. m.0) c.self.invariant.2 in
    let tokens = ap (λ s. s.me.0.is_token) c.replace-seat.ensures.value ∙ ap (λ m. m.0.is_token) c.token.invariant.0 in
    let both = c.join_seat.ensures.2 in
    let knows = ap (λ m. m.0.keeps) both ∙ ap (λ v. v.keeps) known in
    let has = ap (λ m. m.0.is_token) both ∙ tokens in
    let nothing = ap (λ m. m.1) both ∙ ap (λ m. m.1) c.split_seat-spare.ensures.2 ∙ ap (λ m. m.1) c.self.invariant.2 in
    let after = c.load.ensures.2.2 in
    (search rules, search rules, hands _ _ (ap (λ m. m.0.keeps) after ∙ knows) (ap (λ m. m.0.is_token) after ∙ has))

-- the token has no more calls than were entered
pub overflow_add-token : goal.overflow_add-token
overflow_add-token g c =
    let both = c.join_seat.ensures.2 in
    let known = c.join_seat.new.seat.me.0 in
    omega (
      arith,
      c.requires.room,
      ap length c.requires.entries,
      c.token.invariant.1,
      ap (λ m. length m.0.calls) both,
      ap (λ s. length s.me.0.calls) c.replace-seat.ensures.value,
      ap length c.load.ensures.2.0,
      entries_le known.number known.history,
      ap (λ m. length m.0.history) both,
      ap (λ m. length m.0.history) c.split_seat-spare.ensures.2,
      ap (λ r. length r.history) c.self.view_is,
    )
