use Rattle.sup_log.proofs.Steps.{admits, forks, takes}
use Rattle.sup_log.proofs.replicas.seat_of.Goals as goal

pub reader-requires : goal.reader-requires
reader-requires c = admits

pub tell-requires : goal.tell-requires
tell-requires c = forks _ _

pub learn-requires-clause-rule : goal.learn-requires-clause-rule
learn-requires-clause-rule c = takes _ _ _ _
