-- What the driver and the hub say, and the audit.
use Rattle.std.proofs.Common.{refl, [], ◌∷◌, ◌++◌, ap, ◌∙◌, append-nil}
use Rattle.sup_live.specs.Callers.{used, calls_since, knowledge_of}
use Rattle.sup_live.proofs.Added.{counted, entered_ending, told_of}
use Rattle.sup_live.proofs.Listing.{audit_told}
use Rattle.sup_live.proofs.report.conclude.Goals as goal

pub returns-clause-report : goal.returns-clause-report
returns-clause-report g c =
    let may_end = g.P.Office.may_end in
    let driver = c.listed-listed.new.self in
    let hands = driver.hands in
    let clients = c.args.clients in
    let me = used hands.handle hands.since in
    let entered = hands.entered.paid in
    let first = c.join.ensures in
    let second = c.join-2.ensures in
    let made = ap (λ a. a.made) second ∙ ap (λ a. a.made ++ clients.account.made) first in
    let paid = ap (λ a. a.paid) second ∙ ap (λ a. a.paid ++ clients.account.paid) first ∙ (λ i. (entered ++ driver.at.2 i) ++ clients.of_ledger.2 i) ∙ append-nil (entered ++ []) ∙ append-nil entered in
    record {
      driver = me;
      clients = clients.callers.items;
      idle = clients.spare.items;
      callers = c.tell_callers-callers.ensures;
      driven = driver.driven;
      counted = counted may_end (calls_since me) entered c.paid-exits.result driver.led c.paid-exits.ensures;
      endings = (entered_ending may_end (calls_since me) entered driver.led, c.settle-left.ensures.endings);
      account = told_of g.N.Name.template clients.callers.items me may_end _ _ entered _ hands.entered.made hands.restarted.made clients.account.made _ _ c.settle-left.ensures.account made paid driver.led clients.started driver.made;
      peers_are = refl;
      audited = audit_told (λ h. h.items) (λ t. t.front) c.audited-handles.result.1 c.bind_all-all.result (hands.handle ∷ (knowledge_of clients.callers.items ++ clients.spare.items)) c.audited-handles.result.0.items _ c.bind_all-all.ensures c.audited-handles.ensures.audited;
    }
