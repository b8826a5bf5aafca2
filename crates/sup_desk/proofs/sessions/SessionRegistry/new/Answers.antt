use Rattle.sup_desk.proofs.Enrolling.{begins}
use Rattle.sup_desk.proofs.sessions.SessionRegistry.new.Goals as goal

pub of_words-requires : goal.of_words-requires
of_words-requires c = begins
