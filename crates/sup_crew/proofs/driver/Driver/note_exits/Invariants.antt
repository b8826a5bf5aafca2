use Rattle.std.proofs.Common.{◌≡◌, true, ℕ, ◌+◌, ◌≤◌, drop, length}
use Rattle.std.specs.Prelude.{vec_items}
use Rattle.sup_crew.specs.declared.job.Child.{Child}
use Rattle.sup_crew.specs.Births.{AreBornBy}
use Rattle.sup_crew.specs.Dispatchers.{IsSameQueue}
use Rattle.sup_crew.specs.Drains.{replies_of}
use Rattle.sup_crew.specs.Drivers.{restarted_jobs}
use Rattle.sup_crew.specs.Jobs.{weigh}
use Rattle.sup_crew.specs.Tallies.{with_replies}
use Rattle.sup_crew.proofs.driver.Driver.note_exits.Given as goal

abbrev pub invariant-loop-at : goal.invariant-loop-at
invariant-loop-at g l =
    let old = l.fn.self in
    let jobs = l.self-inside.jobs in
    let all = vec_items l.fn.done.pairs in
    let rest = drop l.at all in
    record {
      same : (l.self-inside.handle ≡ old.knows) × (l.self-inside.drain ≡ old.drain) × IsSameQueue old.jobs jobs;
      tally : with_replies l.self-inside.tally true (replies_of rest) ≡ with_replies old.tally true (replies_of all);
      press : l.ticket.press ≡ g.N.Name.press;
      born : AreBornBy g.N.Name.template l.ticket.front (replies_of rest);
      room : (jobs.queue ≡ l.crew.jobs) × (length rest ≤ jobs.room);
      account : (h : Child → ℕ) → weigh h jobs.put + weigh h jobs.kept + weigh h (restarted_jobs rest) ≡ weigh h old.jobs.put + weigh h old.jobs.kept + weigh h (restarted_jobs all);
    }
