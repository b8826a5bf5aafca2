-- The recount of the history that has grown by the entry.
use Rattle.std.proofs.Common.{◌∙◌, sym, subst, ◌++◌, ◌∷◌, []}
use Rattle.sup_core.specs.Account.{IsAfter}
use Rattle.sup_core.specs.HistoryLaws.{after-step}
use Rattle.sup_core.proofs.supervisor.Sup.step_at.Goals as goal

pub returns-clause-reply : goal.returns-clause-reply
returns-clause-reply g c = c.apply_at.ensures.reply c.args.entry.now.handle c.args.entry.now.serial

pub returns-clause-next : goal.returns-clause-next
returns-clause-next g c = c.apply_at.ensures.next c.args.entry.now.handle c.args.entry.now.serial

pub returns-clause-history : goal.returns-clause-history
returns-clause-history g c = λ history after.
    let (told, next) = after-step c.args.self.now history c.args.entry.now after in
    (returns-clause-reply g c ∙ told, subst (λ s. IsAfter s (history ++ c.args.entry.now ∷ [])) (sym (returns-clause-next g c)) next)
