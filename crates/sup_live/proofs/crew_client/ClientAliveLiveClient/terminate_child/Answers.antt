-- A call that starts nothing.
use Rattle.sup_types.specs.declared.history.Operation.TheVariants.{Terminate}
use Rattle.sup_live.specs.Starts.{child_started}
use Rattle.sup_live.specs.ReplyLaws.{called_else, called_low, terminates}
use Rattle.sup_live.proofs.crew_client.ClientAliveLiveClient.terminate_child.Goals as goal

pub invariant_of-self : goal.invariant_of-self
invariant_of-self g c =
    let may = g.S.Starter.may_answer in
    let template = g.N.Name.template in
    let press = g.N.Name.press in
    let was = c.self.inside in
    let i = c.self.invariant in
    let e = c.terminate_child-ended.ensures.result in (
      i.0,
      i.1,
      i.2,
      called_low child_started was.since may template press was.handle was.account.made (Terminate c.args.number) _ i.3 c.terminate_child-ended.new.self c.terminate_child-ended.result e,
      called_else child_started was.since may template press was.handle was.account.made (Terminate c.args.number) _ i.3 c.terminate_child-ended.new.self c.terminate_child-ended.result (terminates c.args.number) i.4 e,
    )
