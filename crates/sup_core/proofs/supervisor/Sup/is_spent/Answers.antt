-- As many steps as the history has entries.
use Rattle.std.proofs.Common.{◌∙◌, ap}
use Rattle.std.specs.Prelude.{◌==◌}
use Rattle.sup_core.specs.State.{State}
use Rattle.sup_core.specs.HistoryLaws.{after-steps}
use Rattle.sup_core.proofs.supervisor.Sup.is_spent.Goals as goal

pub returns-clause-history : goal.returns-clause-history
returns-clause-history g c = λ history after.
    ap (λ (s : State). s.steps == s.template.entries) c.self.view_is
    ∙ ap (λ steps. steps == c.args.self.now.template.entries) (after-steps c.args.self.now history after)
