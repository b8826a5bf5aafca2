use Rattle.std.proofs.Common.{rules, ◌≡◌, List, IfOk, subst}
use Rattle.std.proofs.Common.{Option}
use Rattle.sup_types.specs.declared.view.Row.{Row}
use Rattle.sup_core.specs.Rows.{row_at}
use Rattle.sup_types.specs.declared.history.Entry.{Entry}
use Rattle.sup_types.specs.declared.view.Seen.{Seen}
use Rattle.sup_core.specs.State.{State}
use Rattle.sup_log.specs.Tokens.{standing}
use Rattle.sup_desk.proofs.Answered.{answered, child_is}
use Rattle.sup_desk.proofs.asker.Asker.child.Goals as goal

pub returns-clause-answer : goal.returns-clause-answer
returns-clause-answer g c =
    let t = g.N.Name.template in
    let front : List Entry = c.inspect.new.self.front in
    let s : State = standing t front in
    subst (λ (y : Seen (Option Row)). IfOk c.inspect.result (λ answer. answer ≡ y)) (child_is t front c.args.number)
    (answered _ _ _ s (row_at c.args.number s.rows) c.inspect.result c.inspect.ensures.answer (λ r told. search rules))
