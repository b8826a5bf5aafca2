-- The account has the child that was started.
use Rattle.std.proofs.Common.{[], ◌∷◌, length, ap, sym, ◌∙◌, subst, arith}
use base.Growing.{prefix_trans}
use mathlib.Core.List.{IsPrefix}
use Rattle.sup_types.specs.declared.history.Operation.TheVariants.{Start}
use Rattle.sup_desk.specs.Knowledge.{Knowledge}
use Rattle.sup_live.specs.Callers.{Used}
use Rattle.sup_live.specs.Starts.{child_started, HasStarted}
use Rattle.sup_live.specs.ReplyLaws.{one_more, seen_more, since_grown}
use Rattle.sup_live.proofs.crew_client.ClientAliveLiveClient.start_child.Goals as goal

pub invariant_of-self : goal.invariant_of-self
invariant_of-self g c =
    let template = g.N.Name.template in
    let was = c.self.inside in
    let i = c.self.invariant in
    let after = c.start_child-started.new.self in
    let begun = c.begin_started-child.ensures in
    let later = c.begin_started-child.new.handle in
    let told = rw c.in-Ok-started.is at c.start_child-started.ensures.result in
    let r = told.ok in
    let made = one_more child_started was.since g.S.Starter.may_answer template g.N.Name.press was.handle was.account.made (Start c.args.arg) _ i.3 after _ _ i.4 r in
    let grown = seen_more child_started was.since template after later _ made begun.front begun.calls.0 begun.calls.1 in
    let low = since_grown was.since was.handle.calls (r.entry ∷ []) after.calls (ap (λ (k : Knowledge). k.calls) r.after_is) i.3 in
    let same = ap length begun.calls.0 in (
      ap (λ a. a.ledger) begun.account ∙ i.0,
      ap (λ a. a.parts) begun.account ∙ i.1,
      ap (λ a. a.paid) begun.account ∙ i.2,
      omega (arith, low, same),
      subst (HasStarted template was.since later) (sym (ap (λ a. a.made) begun.account)) grown,
    )

pub returns-in-Ok-started-clause-front : goal.returns-in-Ok-started-clause-front
returns-in-Ok-started-clause-front g c =
    let later = c.begin_started-child.new.handle in
    let told = rw c.in-Ok-started.is at c.start_child-started.ensures.result in
    subst (λ (u : Used). IsPrefix u.knows.front later.front) c.self.view_is (prefix_trans _ _ _ told.seen.front c.begin_started-child.ensures.front)
