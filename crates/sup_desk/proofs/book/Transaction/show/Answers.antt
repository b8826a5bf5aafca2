use Rattle.std.proofs.Common.{◌≡◌, ◌++◌, sym, ap, ◌∙◌, ◌⊎◌, inl, inr}
use mathlib.Core.List.{IsPrefix}
use Rattle.sup_log.specs.Tokens.{Told}
use Rattle.sup_desk.specs.Books.{Written}
use Rattle.sup_desk.specs.Knowledge.{Knowledge}
use Rattle.sup_desk.specs.EntryLaws.{adopted}
use Rattle.sup_desk.proofs.book.Transaction.show.Goals as goal

fronts : {A B C D : Type 0} → (A × B) ⊎ (C × D) → A ⊎ C
fronts (inl p) = inl p.0
fronts (inr p) = inr p.0

wholes : {A B C D : Type 0} → (A × B) ⊎ (C × D) → B ⊎ D
wholes (inl p) = inl p.1
wholes (inr p) = inr p.1

pub returns-clause-caller : goal.returns-clause-caller
returns-clause-caller g c =
    let t : Written = c.args.self.now in
    let is = c.caller.view_is in
    let covered = c.requires.covered in
    let learnt = c.learn.ensures in
    let told : c.tell-ticket.result ≡ record { press = g.N.Name.press; editions = t.editions; front = t.published } =
    c.tell-ticket.ensures ∙ (λ i. record { press = c.self.invariant.0 i; editions = (c.self.view_is i).editions; front = (c.self.view_is i).published }) in
    let front : IsPrefix c.caller.inside.asker.front c.tell-ticket.result.front =
    (covered.0.0, ap (λ (k : Knowledge). k.front ++ covered.0.0) is ∙ covered.0.1 ∙ sym (ap (λ (t : Told). t.front) told)) in
    let editions : IsPrefix c.caller.inside.asker.editions c.tell-ticket.result.editions =
    (covered.1.0, ap (λ (k : Knowledge). k.editions ++ covered.1.0) is ∙ covered.1.1 ∙ sym (ap (λ (t : Told). t.editions) told)) in
    let front_is = adopted c.caller.inside.asker.front c.tell-ticket.result.front c.learn.new.self.front front learnt.learnt.0 (fronts learnt.either) ∙ ap (λ (t : Told). t.front) told in
    let editions_are = adopted c.caller.inside.asker.editions c.tell-ticket.result.editions c.learn.new.self.editions editions learnt.learnt.1 (wholes learnt.either) ∙ ap (λ (t : Told). t.editions) told in
    (λ i. record { number = c.caller.inside.token.number; editions = editions_are i; front = front_is i; calls = c.caller.inside.token.calls })
    ∙ (λ i. record { number = (is i).number; editions = t.editions; front = t.published; calls = (is i).calls })
