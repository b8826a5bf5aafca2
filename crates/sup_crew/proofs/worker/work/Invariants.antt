use Rattle.std.proofs.Common.{◌≡◌, ℕ, []}
use Rattle.sup_crew.specs.declared.job.Child.{Child}
use Rattle.sup_crew.specs.Jobs.{weigh, permission}
use Rattle.sup_crew.specs.Work.{ended, AreEnds}
use Rattle.sup_crew.proofs.worker.work.Given as goal

abbrev pub invariant-loop : goal.invariant-loop
invariant-loop g l = record {
  endpoint : l.endpoint ≡ record { queue = l.crew.jobs; permission = permission 1 [] l.endpoint.permission.taken };
  poster : (l.poster.inbox ≡ l.crew.inbox.id) × (l.poster.number ≡ l.fn.poster.number);
  account : (h : Child → ℕ) → weigh h l.endpoint.permission.taken ≡ weigh h (ended l.poster.posted);
  ends : AreEnds (g.B.Body.may_end l.body) l.poster.posted;
}
