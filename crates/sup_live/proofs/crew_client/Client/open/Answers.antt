-- It has started nothing in this run.
use Rattle.std.proofs.Common.{ap, sym, subst, arith}
use Rattle.sup_live.specs.Starts.{child_started, HasStarted}
use Rattle.sup_live.specs.ReplyLaws.{none_yet}
use Rattle.sup_live.proofs.crew_client.Client.open.Goals as goal

pub invariant_of-result : goal.invariant_of-result
invariant_of-result g c =
    let template = g.N.Name.template in
    let handle = c.match-spare.handle in
    let since = c.calls-since.result in
    let is = c.calls-since.ensures in
    let new = c.in-Some-split.ensures in (
      ap (λ a. a.ledger) new,
      ap (λ a. a.parts) new,
      ap (λ a. a.paid) new,
      omega (arith, is),
      subst (HasStarted template since handle) (sym (ap (λ a. a.made) new)) (none_yet child_started since template handle is),
    )
