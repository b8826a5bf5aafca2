use Rattle.std.proofs.Common.{◌++◌, ap, sym, ◌∙◌}
use Rattle.sup_live.specs.Restarts.{restarted_as, numbers_of}
use Rattle.sup_live.proofs.Led.{numbers_shown}
use Rattle.sup_live.proofs.restarts.Restarts.answer.Goals as goal

pub returns-after-is_later-clause-made : goal.returns-after-is_later-clause-made
returns-after-is_later-clause-made g c =
    let was = c.args.hands.now.restarted.made in
    numbers_shown c.begin.new.account.made was (record { number = c.in-Restarted.number; arg = c.args.of.child.arg }) (ap (λ a. a.made) c.begin.ensures.account)
    ∙ ap (λ r. numbers_of was ++ restarted_as r) (sym c.in-Restarted.is)
