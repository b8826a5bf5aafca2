-- One exit more is paid, and listed.
use Rattle.std.proofs.Common.{◌≡◌, true, [], ◌∷◌, ◌++◌, ap, sym, ◌∙◌}
use Rattle.sup_exits.specs.Endings.{is_ending}
use Rattle.sup_live.proofs.Telling.{all_more, paid_more}
use Rattle.sup_live.proofs.hub.tell.Goals as goal

pub loop-preserved : goal.loop-preserved
loop-preserved g c =
    let i = c.loop.invariant in
    let now = c.push_reserved.ensures.items ∙ ap (λ l. l ++ c.pay.result ∷ []) c.reserve.ensures.items in
    let paid = ap (λ a. a.paid) c.pay.ensures.account ∙ ap (λ e. c.loop.account.paid ++ e.child ∷ []) (sym c.pay.ensures.exit) in
    record {
      endings = all_more (λ e. is_ending g.P.Office.may_end e.reason ≡ true) _ _ _ now i.endings c.pay.ensures.ending;
      paid = λ others h. paid_more others _ _ _ _ c.pay.result (i.paid others h) paid now;
      same = (ap (λ a. a.ledger) c.pay.ensures.account ∙ i.same.0, ap (λ a. a.parts) c.pay.ensures.account ∙ i.same.1, ap (λ a. a.made) c.pay.ensures.account ∙ i.same.2);
    }
