use Rattle.sup_window.specs.Laws.{is_allowed-remembered}
use Rattle.sup_window.proofs.laws.remembered_attempts_decide.Goals as goal

pub returns : goal.returns
returns c = is_allowed-remembered
