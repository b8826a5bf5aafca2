use Rattle.std.proofs.Common.{rules, ◌≡◌, List, IfOk, ap, sym, ◌∙◌, subst, Bool, cond}
use Rattle.sup_types.specs.declared.history.Entry.{Entry}
use Rattle.sup_types.specs.declared.view.Seen.TheVariants.{Up, Down}
use Rattle.sup_core.specs.State.{State}
use Rattle.sup_log.specs.Tokens.{standing}
use Rattle.sup_desk.proofs.Answered.{answered_up, answered_down, which_is}
use Rattle.sup_desk.proofs.asker.Asker.which_children.Goals as goal

pub returns-in_ok-rows-in-Up-clause-answer : goal.returns-in_ok-rows-in-Up-clause-answer
returns-in_ok-rows-in-Up-clause-answer g c =
    let t = g.N.Name.template in
    let front : List Entry = c.inspect.new.self.front in
    let s : State = standing t front in
    let told = answered_up _ _ _ s.down (λ listed. IfOk listed (λ rows. rows.items ≡ s.rows)) _ c.in-Up.rows c.in_ok-rows.ensures.answer c.in-Up.is (λ r told. search rules) in
    sym (which_is t front) ∙ ap (λ (b : Bool). cond b Down (Up s.rows)) told.0
    ∙ ap Up (sym (subst (λ listed. IfOk listed (λ rows. rows.items ≡ s.rows)) c.in_ok-rows-in-Up.was told.1))

pub returns-in-Down-clause-answer : goal.returns-in-Down-clause-answer
returns-in-Down-clause-answer g c =
    let t = g.N.Name.template in
    let front : List Entry = c.inspect.new.self.front in
    let s : State = standing t front in
    sym (which_is t front) ∙ ap (λ (b : Bool). cond b Down (Up s.rows)) (answered_down _ _ _ s.down _ c.in_ok-rows.ensures.answer c.in-Down.is)
