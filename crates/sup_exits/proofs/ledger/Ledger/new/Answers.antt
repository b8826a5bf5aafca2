use Rattle.sup_exits.proofs.Balancing.{begins}
use Rattle.sup_exits.proofs.ledger.Ledger.new.Goals as goal

pub of_words-requires : goal.of_words-requires
of_words-requires c = begins _
