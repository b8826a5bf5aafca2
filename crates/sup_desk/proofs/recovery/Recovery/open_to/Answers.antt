use Rattle.std.proofs.Common.{◌≡◌, ◌+◌, List, length, sym, ap, ◌∙◌, subst, arith}
use Rattle.sup_desk.specs.Audits.{AreNumbered}
use Rattle.sup_desk.specs.Books.{Kept}
use Rattle.sup_desk.specs.Knowledge.{Knowledge}
use Rattle.sup_desk.proofs.Audited.{each_more}
use Rattle.sup_desk.proofs.recovery.Recovery.open_to.Goals as goal

pub opening-preserved : goal.opening-preserved
opening-preserved g c =
    let r = c.opening.self-inside in
    let old = c.opening.invariant in
    let one : Knowledge = c.in-Ok.caller in
    let added = c.in-Ok.ensures.added in
    let pushed = c.push_reserved.ensures in
    let callers : List Knowledge = r.callers.items in
    let number : one.number ≡ length callers + 1 =
    ap (λ (k : Knowledge). k.number) c.in-Ok.ensures.ok.0 ∙ omega (arith, old.made, r.callers.ok.0) in
    record {
      same = (ap (λ (k : Kept). k.history) added ∙ old.same.0, ap (λ (k : Kept). k.handles) added ∙ old.same.1);
      going = ap (λ (k : Kept). k.fault) added ∙ old.going;
      made = omega (arith, ap (λ (k : Kept). k.made) added, pushed.len, old.made);
      room = omega (arith, ap (λ (k : Kept). k.handles) added, pushed.capacity, old.room);
      numbered = subst AreNumbered (sym pushed.items) (each_more (λ k h. h.number ≡ k + 1) callers one old.numbered number);
    }
