-- A call that starts nothing.
use Rattle.sup_types.specs.declared.history.Operation.TheVariants.{Stop}
use Rattle.sup_live.specs.Starts.{child_started}
use Rattle.sup_live.specs.ReplyLaws.{called_else, called_low, stops}
use Rattle.sup_live.proofs.crew_client.ClientAliveLiveClient.stop.Goals as goal

pub invariant_of-self : goal.invariant_of-self
invariant_of-self g c =
    let may = g.S.Starter.may_answer in
    let template = g.N.Name.template in
    let press = g.N.Name.press in
    let was = c.self.inside in
    let i = c.self.invariant in
    let e = c.stop-stopped.ensures.result in (
      i.0,
      i.1,
      i.2,
      called_low child_started was.since may template press was.handle was.account.made Stop _ i.3 c.stop-stopped.new.self c.stop-stopped.result e,
      called_else child_started was.since may template press was.handle was.account.made Stop _ i.3 c.stop-stopped.new.self c.stop-stopped.result stops i.4 e,
    )
