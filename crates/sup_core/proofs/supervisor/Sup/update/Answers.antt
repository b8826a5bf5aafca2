-- The start function is asked about the argument that the recount of the whole history asks about.
use Rattle.std.proofs.Common.{◌∙◌, sym, ap, subst, ℕ, ◌++◌, ◌∷◌, []}
use Rattle.sup_types.specs.declared.history.Operation.{Operation}
use Rattle.sup_types.specs.declared.history.Entry.{Entry}
use Rattle.sup_types.specs.declared.history.Answer.{Answer}
use Rattle.sup_core.specs.Replies.{reply_to}
use Rattle.sup_core.specs.Changes.{next_state}
use Rattle.sup_core.specs.Account.{IsAfter, answer_to, entry_of}
use Rattle.sup_core.specs.HistoryLaws.{after-step, after-asked_argument}
use Rattle.sup_core.proofs.supervisor.Sup.update.Goals as goal

-- the entry with this answer
abbrev entry_with : ℕ → ℕ → ℕ → Operation → Answer → Entry
entry_with handle serial moment operation answer =
    record { handle = handle; serial = serial; moment = moment; operation = operation; answer = answer }

pub returns-clause-reply : goal.returns-clause-reply
returns-clause-reply g c = λ handle serial.
    c.apply_at.ensures.reply handle serial
    ∙ ap (λ answer. reply_to c.args.self.now (entry_with handle serial c.args.moment c.args.operation.now answer))
    (c.answer_to-answer.ensures ∙ ap (λ arg. answer_to g.S.FixedStarter.answer arg c.args.moment) c.asked_argument-asked.ensures)

pub returns-clause-next : goal.returns-clause-next
returns-clause-next g c = λ handle serial.
    c.apply_at.ensures.next handle serial
    ∙ ap (λ answer. next_state c.args.self.now (entry_with handle serial c.args.moment c.args.operation.now answer))
    (c.answer_to-answer.ensures ∙ ap (λ arg. answer_to g.S.FixedStarter.answer arg c.args.moment) c.asked_argument-asked.ensures)

pub returns-clause-history : goal.returns-clause-history
returns-clause-history g c = λ history handle serial after.
    let entry = entry_of g.S.FixedStarter.answer c.args.self.now.template history handle serial c.args.operation.now c.args.moment in
    let same = ap (λ arg. entry_with handle serial c.args.moment c.args.operation.now (answer_to g.S.FixedStarter.answer arg c.args.moment))
    (after-asked_argument c.args.self.now history c.args.operation.now c.args.moment after) in
    let (told, next) = after-step c.args.self.now history entry after in (
      returns-clause-reply g c handle serial ∙ ap (reply_to c.args.self.now) same ∙ told,
      subst (λ s. IsAfter s (history ++ entry ∷ [])) (sym (returns-clause-next g c handle serial ∙ ap (next_state c.args.self.now) same)) next,
    )

pub returns-clause-template : goal.returns-clause-template
returns-clause-template g c = ap (λ s. s.template) (c.apply_at.ensures.next 0 0)

pub returns-clause-steps : goal.returns-clause-steps
returns-clause-steps g c = ap (λ s. s.steps) (c.apply_at.ensures.next 0 0)
