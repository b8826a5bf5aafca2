-- The search is bound to what is named, so that a mutant is refused soon.
use Rattle.std.proofs.Common.{rules}
use Rattle.sup_crew.proofs.Stays.{born_stays}
use Rattle.sup_crew.proofs.worker.run_job.Goals as goal

pub run-reason-requires : goal.run-reason-requires
run-reason-requires g c = born_stays g.N.Name.template c.args.job.ticket.front c.learn.new.self.front c.args.job.number c.learn.ensures.learnt.0 c.args.job.born

pub returns-clause-reason : goal.returns-clause-reason
returns-clause-reason g c = search rules
