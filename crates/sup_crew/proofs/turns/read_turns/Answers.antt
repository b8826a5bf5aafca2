use Rattle.std.proofs.Common.{◌∙◌, rules}
use Rattle.sup_crew.proofs.Called.{trans}
use Rattle.sup_crew.proofs.turns.read_turns.Goals as goal

pub loop-preserved : goal.loop-preserved
loop-preserved g c =
    let i = c.loop.invariant in
    let e = c.ask.ensures in
    record {
      count = search rules;
      front = trans c.args.handle.now.front c.loop.handle.front c.ask.new.handle.front i.front e.front;
      calls = (e.calls.0 ∙ i.calls.0, e.calls.1 ∙ i.calls.1);
    }
