use Rattle.std.proofs.Common.{rules, ◌≡◌, List, IfOk, subst}
use Rattle.sup_types.specs.declared.view.Counts.{Counts}
use Rattle.sup_core.specs.Rows.{counts_of}
use Rattle.sup_types.specs.declared.history.Entry.{Entry}
use Rattle.sup_types.specs.declared.view.Seen.{Seen}
use Rattle.sup_core.specs.State.{State}
use Rattle.sup_log.specs.Tokens.{standing}
use Rattle.sup_desk.proofs.Answered.{answered, count_is}
use Rattle.sup_desk.proofs.asker.Asker.count_children.Goals as goal

pub returns-clause-answer : goal.returns-clause-answer
returns-clause-answer g c =
    let t = g.N.Name.template in
    let front : List Entry = c.inspect.new.self.front in
    let s : State = standing t front in
    subst (λ (y : Seen Counts). IfOk c.inspect.result (λ answer. answer ≡ y)) (count_is t front)
    (answered _ _ _ s (counts_of s.template.kind s.rows) c.inspect.result c.inspect.ensures.answer (λ r told. search rules))
