use Rattle.std.proofs.Common.{rules}
use Rattle.sup_inbox.proofs.Moves.{begins}
use Rattle.sup_inbox.proofs.inbox.Inbox.new.Goals as goal

pub ruled-requires-clause-rule : goal.ruled-requires-clause-rule
ruled-requires-clause-rule g c = begins

pub returns : goal.returns
returns g c = search rules
