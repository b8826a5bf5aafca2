use Rattle.sup_window.specs.Laws.{remembered-push}
use Rattle.sup_window.proofs.laws.forgotten_attempts_stay_forgotten.Goals as goal

pub returns : goal.returns
returns c = remembered-push
