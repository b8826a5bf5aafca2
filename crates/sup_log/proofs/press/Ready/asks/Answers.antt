use Rattle.std.proofs.Common.{◌≡◌, List, ◌++◌, length, take, ap, sym, ◌∙◌, arith, length-append}
use Rattle.std.specs.Prelude.{min}
use Rattle.std.proofs.lemmas.List.{length-take}
use Rattle.std.proofs.lemmas.Bool.{eq-eqb, eqb-true}
use Rattle.sup_types.specs.declared.history.Entry.{Entry}
use Rattle.sup_types.specs.declared.template.Template.{Template}
use Rattle.sup_core.specs.State.{State}
use Rattle.sup_core.specs.Replies.{asked_argument}
use Rattle.sup_core.specs.Account.{state_after}
use Rattle.sup_core.specs.HistoryLaws.{after-steps}
use Rattle.sup_log.specs.Tokens.{Record, so_far}
use Rattle.sup_log.proofs.Stepped.{after-stepped, template-stepped}
use Rattle.sup_log.proofs.press.Ready.asks.Goals as goal

pub returns-then-is_spent-clause-full : goal.returns-then-is_spent-clause-full
returns-then-is_spent-clause-full c =
    let p = c.press.inside in
    let old = c.press.invariant in
    let s : State = p.replicas.next in
    let all : List Entry = p.history.front ++ take p.stepped p.pending.items in
    let full : s.steps ≡ s.template.entries = eqb-true s.steps s.template.entries (sym c.if-is_spent.ensures) in
    sym (ap (λ (r : Record). length (so_far r)) c.press.view_is)
    ∙ sym (after-steps s all (after-stepped p.replicas.shown s p.history.front p.pending.items p.stepped old.3 old.2 old.7 old.4))
    ∙ full
    ∙ ap (λ (t : Template). t.entries) (template-stepped p.replicas.shown s p.pending.items p.stepped old.7)
    ∙ ap (λ (r : Record). r.template.entries) c.press.view_is

pub returns-clause-room : goal.returns-clause-room
returns-clause-room c =
    let p = c.press.inside in
    let old = c.press.invariant in
    let s : State = p.replicas.next in
    let all : List Entry = p.history.front ++ take p.stepped p.pending.items in
    let steps : s.steps ≡ length all = after-steps s all (after-stepped p.replicas.shown s p.history.front p.pending.items p.stepped old.3 old.2 old.7 old.4) in
    let bound : s.template.entries ≡ p.replicas.shown.standing.template.entries = ap (λ (t : Template). t.entries) (template-stepped p.replicas.shown s p.pending.items p.stepped old.7) in
    let few : length (take p.stepped p.pending.items) ≡ min p.stepped (length p.pending.items) = length-take p.stepped p.pending.items in
    let isnt : s.steps ≡ s.template.entries → ⊥ = λ e. cc (c.if-is_spent.ensures, eq-eqb s.steps s.template.entries e) in
    omega (
      arith,
      steps,
      bound,
      few,
      isnt,
      old.4,
      length-append p.history.front (take p.stepped p.pending.items),
      ap (λ (r : Record). length (so_far r)) c.press.view_is,
      ap (λ (r : Record). r.template.entries) c.press.view_is,
    )

pub returns-clause-value : goal.returns-clause-value
returns-clause-value c =
    let p = c.press.inside in
    let old = c.press.invariant in
    let s : State = p.replicas.next in
    let all : List Entry = p.history.front ++ take p.stepped p.pending.items in
    c.asks.ensures all (after-stepped p.replicas.shown s p.history.front p.pending.items p.stepped old.3 old.2 old.7 old.4)
    ∙ ap (λ (t : Template). asked_argument (state_after t all) c.args.operation.now c.args.moment) (template-stepped p.replicas.shown s p.pending.items p.stepped old.7)
    ∙ ap (λ (r : Record). asked_argument (state_after r.template (so_far r)) c.args.operation.now c.args.moment) c.press.view_is
