-- What one client more started is among what was made. A caller that is lost adds nothing to what is listed.
use Rattle.std.proofs.Common.{◌++◌, ap, sym, ◌∙◌, subst, arith}
use Rattle.std.specs.Prelude.{is_ok}
use Rattle.sup_live.specs.Accounts.{AreStartedAmong}
use Rattle.sup_live.proofs.Listing.{left_more}
use Rattle.sup_live.proofs.left.Left.add.Goals as goal

pub invariant_of-self : goal.invariant_of-self
invariant_of-self g c =
    let template = g.N.Name.template in
    let was = c.args.self.now in
    let now = c.push.new.self.items in
    let j = c.join.ensures in
    let some = was.of_ledger.1 in
    let parts = ap (λ a. a.parts) j in
    let more = left_more (is_ok c.push.result) template was.callers.items now c.args.caller was.account.made c.args.account.made c.push.ensures.items was.started c.requires.started in
    record {
      of_ledger = (ap (λ a. a.ledger) j ∙ c.requires.ledger.0, omega (arith, some, parts), ap (λ a. a.paid) j ∙ (λ i. was.of_ledger.2 i ++ c.requires.ledger.2 i));
      started = subst (AreStartedAmong template now) (sym (ap (λ a. a.made) j)) more;
    }

pub invariant_of-self-else-is_err : goal.invariant_of-self-else-is_err
invariant_of-self-else-is_err g c =
    let template = g.N.Name.template in
    let was = c.args.self.now in
    let now = c.push.new.self.items in
    let j = c.join.ensures in
    let some = was.of_ledger.1 in
    let parts = ap (λ a. a.parts) j in
    let more = left_more (is_ok c.push.result) template was.callers.items now c.args.caller was.account.made c.args.account.made c.push.ensures.items was.started c.requires.started in
    record {
      of_ledger = (ap (λ a. a.ledger) j ∙ c.requires.ledger.0, omega (arith, some, parts), ap (λ a. a.paid) j ∙ (λ i. was.of_ledger.2 i ++ c.requires.ledger.2 i));
      started = subst (AreStartedAmong template now) (sym (ap (λ a. a.made) j)) more;
    }
