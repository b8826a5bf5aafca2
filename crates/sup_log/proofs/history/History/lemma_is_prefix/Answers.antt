-- The right says how many publications there are, and the ticket's begin what was seen.
use Rattle.std.proofs.Common.{◌≡◌, List, sym, ◌∙◌, ap, length, arith}
use Rattle.sup_log.specs.Tokens.{Publication}
use Rattle.sup_log.specs.PublicationLaws.{history_prefix}
use Rattle.sup_log.proofs.Extending.{compares_moves, all_told}
use Rattle.sup_log.proofs.history.History.lemma_is_prefix.Goals as goal

pub load-requires : goal.load-requires
load-requires c =
    let head = c.self.invariant.2 in
    let offer = c.compared-offer.ensures in (
      ap (λ w. w.tracked) head,
      c.learn.ensures.0 ∙ sym (ap (λ w. w.book) head),
      offer.0 ∙ sym c.self.invariant.3.0 ∙ sym c.learn.ensures.1,
      rw (ap (λ w. w.key) head, offer.1) (compares_moves c.learn.new.self.log c.compared-offer.result.ask offer.3),
    )

pub returns-clause-front : goal.returns-clause-front
returns-clause-front c =
    let mine : List Publication = c.self.inside.seen.log in
    let theirs : List Publication = c.told.inside.seen.log in
    let loaded = c.load.ensures in
    let gained = c.into_gain.ensures in
    let answer : c.into_gain.result.answer ≡ length c.load.new.seen.log = cc (gained.2, loaded.6.1.0) in
    let same : c.into_gain.result.answer ≡ length mine =
    omega (arith, c.taken.ensures.2, ap length (gained.1 ∙ loaded.4), c.compared-offer.ensures.2, ap (λ n. n.value) c.self.invariant.3.1) in
    let all = all_told mine theirs c.learn.new.self.log c.load.new.seen.log c.into_gain.result.answer c.learn.ensures.2 c.learn.ensures.3 loaded.6.1.1 answer same in
    rw (← c.self.view_is, ← c.told.view_is) (history_prefix theirs mine all.1)
