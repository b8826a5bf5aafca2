use Rattle.std.proofs.Common.{◌≡◌, ◌≤◌, length, take, drop}
use Rattle.std.specs.Prelude.{vec_items}
use Rattle.std.specs.Slice.Iter.{chunks_rest, chunks_size}
use Rattle.sup_crew.specs.Drivers.{IsSameDriver, Starts}
use Rattle.sup_crew.proofs.driver.Driver.start_all.Given as goal

abbrev pub invariant-loop-batch : goal.invariant-loop-batch
invariant-loop-batch g l =
    let all = vec_items l.crew.plan.children in
    record {
      can_next : (goal.iterator-loop-batch g).can_next l.batch-iterator;
      is_finite : (goal.iterator-loop-batch g).is_finite l.batch-iterator;
      size : chunks_size l.batch-iterator ≡ 64;
      rest : chunks_rest l.batch-iterator ≡ drop l.started all;
      within : l.started ≤ length all;
      same : IsSameDriver l.fn.self l.self;
      queue : l.self.jobs.queue ≡ l.crew.jobs;
      started : Starts g.N.Name.template g.N.Name.press l.crew.plan.moment (take l.started all) l.fn.self l.self;
    }
