-- The account has the children that were started.
use Rattle.std.proofs.Common.{length, take, ap, sym, ◌∙◌, subst, arith}
use Rattle.sup_live.specs.Batches.{IsStartedAll, starts_of}
use Rattle.sup_live.specs.Callers.{Used}
use Rattle.sup_live.specs.ReplyLaws.{seen_more}
use Rattle.sup_live.specs.Starts.{child_started, HasStarted}
use Rattle.sup_live.proofs.Batched.{called_all, started_all, whole}
use Rattle.sup_live.proofs.crew_client.ClientAliveLiveClient.start_all.Goals as goal

pub invariant_of-self : goal.invariant_of-self
invariant_of-self g c =
    let template = g.N.Name.template in
    let was = c.self.inside in
    let i = c.self.invariant in
    let list = c.args.list.now.items in
    let e = c.enter_all-replies.ensures in
    let mid = c.enter_all-replies.new.handle in
    let replies = c.enter_all-replies.result.0.items in
    let ticket = c.enter_all-replies.result.1 in
    let b = c.begin_all.ensures in
    let now = c.begin_all.new.handle in
    let started = started_all was.since g.S.Starter.may_answer template g.N.Name.press was.handle mid was.account.made list _ replies ticket i.3 i.4 e.front e.entered e.nothing in
    let grown = seen_more child_started was.since template mid now _ started b.front b.calls.0 b.calls.1 in
    let low = called_all was.since g.S.Starter.may_answer template g.N.Name.press was.handle mid (take (length replies) (starts_of list)) _ replies ticket i.3 e.entered e.nothing in
    let same = ap length b.calls.0 in (
      ap (λ a. a.ledger) b.account ∙ i.0,
      ap (λ a. a.parts) b.account ∙ i.1,
      ap (λ a. a.paid) b.account ∙ i.2,
      omega (arith, low, same),
      subst (HasStarted template was.since now) (sym (ap (λ a. a.made) b.account)) grown,
    )

pub returns : goal.returns
returns g c =
    let template = g.N.Name.template in
    let e = c.enter_all-replies.ensures in
    let b = c.begin_all.ensures in
    let now = c.begin_all.new.handle in
    let rest = c.begin_all.new.list.items in
    subst (λ (u : Used). IsStartedAll g.S.Starter.may_answer g.J.Journal.may_fail template g.N.Name.press u.knows c.args.list.now.items now rest (record { started = c.begin_all.new.started; ticket = c.enter_all-replies.result.1; fault = c.enter_all-replies.result.2 })) c.self.view_is
    (whole g.S.Starter.may_answer g.J.Journal.may_fail template g.N.Name.press c.self.inside.handle c.enter_all-replies.new.handle now c.args.list.now.items rest _ c.enter_all-replies.result.0.items (record { started = c.begin_all.new.started; ticket = c.enter_all-replies.result.1; fault = c.enter_all-replies.result.2 })
    e.entered e.nothing e.all e.front e.journal b.started b.given b.rest b.front b.calls)
