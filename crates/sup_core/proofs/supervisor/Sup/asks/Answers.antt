-- The recount of the whole history asks the same.
use Rattle.std.proofs.Common.{◌∙◌}
use Rattle.sup_core.specs.HistoryLaws.{after-asked_argument}
use Rattle.sup_core.proofs.supervisor.Sup.asks.Goals as goal

pub returns-clause-history : goal.returns-clause-history
returns-clause-history g c = λ history after.
    c.asked_argument.ensures ∙ after-asked_argument c.args.self.now history c.args.operation.now c.args.moment after
