-- One look decides.
use Rattle.std.proofs.lemmas.Grind.{common_steps}
use Rattle.std.proofs.Common.{◌+◌, ◌≤◌, ◌-◌, ◌∙◌, ap, sym, max, length, arith}
use Rattle.std.specs.Prelude.{not, slice_get}
use Rattle.sup_window.specs.Attempts.{greatest, is_allowed, counts_at, Recent}
use Rattle.sup_window.proofs.SeenLemmas.{is_allowed-oldest}
use Rattle.sup_window.proofs.Window.decides.Goals as goal

pub returns : goal.returns
returns g c =
    let w = c.self.inside in
    let at = c.max-at.result in
    let low : greatest w.moments.items ≤ at = omega (arith, c.self.invariant.3, c.max-at.ensures) in
    let many : w.intensity ≤ length w.moments.items = omega (arith, c.if-kept-self.false, c.len-kept.ensures.len) in
    let most : length w.moments.items ≤ w.intensity + 1 = omega (arith, c.len-kept.ensures.len, c.len-kept.ensures.within.0, c.self.invariant.1) in
    ap not c.counts_at.ensures
    ∙ ap (λ n. not (counts_at w.period at (slice_get w.moments.items (n - w.intensity)))) c.len-kept.ensures.len
    ∙ sym (is_allowed-oldest w.intensity w.period at w.moments.items c.self.invariant.2 low many most)
    ∙ ap (is_allowed w.intensity w.period w.moments.items) c.max-at.ensures
    ∙ ap (λ (s : Recent). is_allowed s.intensity s.period s.moments (max s.latest c.args.moment)) c.self.view_is

pub returns-then-kept-self : goal.returns-then-kept-self
returns-then-kept-self g c = grind (arith, common_steps)
