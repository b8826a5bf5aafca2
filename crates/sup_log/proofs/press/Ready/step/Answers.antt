use Rattle.std.proofs.Common.{◌≡◌, ◌+◌, ◌<◌, List, ◌++◌, length, take, slice_get, ap, sym, ◌∙◌, subst, arith, length-append}
use Rattle.std.specs.Prelude.{min, fold}
use Rattle.std.proofs.lemmas.List.{length-take}
use Rattle.std.proofs.lemmas.Option.{get_or_from_slice_get}
use Rattle.sup_types.specs.declared.history.Entry.{Entry}
use Rattle.sup_types.specs.declared.template.Template.{Template}
use Rattle.sup_core.specs.State.{State}
use Rattle.sup_core.specs.Account.{reply_after}
use Rattle.sup_core.specs.HistoryLaws.{after-steps}
use Rattle.sup_log.specs.Absorbing.{taken}
use Rattle.sup_log.specs.Tokens.{Record, Sides, IsLawful, so_far}
use Rattle.sup_log.proofs.Stepped.{after-stepped, template-stepped, stepped-more}
use Rattle.sup_log.proofs.press.Ready.step.Goals as goal

pub step-reply-requires-clause-room : goal.step-reply-requires-clause-room
step-reply-requires-clause-room c =
    let p = c.press.inside in
    let old = c.press.invariant in
    let s : State = p.replicas.next in
    let all : List Entry = p.history.front ++ take p.stepped p.pending.items in
    let bound : s.template.entries ≡ p.replicas.shown.standing.template.entries = ap (λ (t : Template). t.entries) (template-stepped p.replicas.shown s p.pending.items p.stepped old.7) in
    let steps : s.steps ≡ length all = after-steps s all (after-stepped p.replicas.shown s p.history.front p.pending.items p.stepped old.3 old.2 old.7 old.4) in
    let few : length (take p.stepped p.pending.items) ≡ min p.stepped (length p.pending.items) = length-take p.stepped p.pending.items in
    let less : p.stepped < length p.pending.items =
    omega (arith, c.requires.some, ap (λ (r : Record). r.stepped) c.press.view_is, ap (λ (r : Record). length r.pending) c.press.view_is) in
    omega (arith, steps, bound, few, less, old.4, length-append p.history.front (take p.stepped p.pending.items))

pub invariant_of-press : goal.invariant_of-press
invariant_of-press c =
    let p = c.press.inside in
    let old = c.press.invariant in
    let entry : Entry = c.index-entry.result.now in
    let less : p.stepped < length p.pending.items =
    omega (arith, c.requires.some, ap (λ (r : Record). r.stepped) c.press.view_is, ap (λ (r : Record). length r.pending) c.press.view_is) in
    let shown : c.step-reply.new.self.shown ≡ p.replicas.shown = ap (λ (x : Sides). x.shown) c.step-reply.ensures.next in
    let next : c.step-reply.new.self.next ≡ fold taken p.replicas.shown.standing (take (p.stepped + 1) p.pending.items) =
    ap (λ (x : Sides). x.next) c.step-reply.ensures.next
    ∙ ap (λ (s : State). taken s entry) old.7
    ∙ sym (stepped-more p.replicas.shown.standing p.pending.items p.stepped entry less c.index-entry.ensures) in (
      ap (λ v. v.press) shown ∙ old.0,
      ap (λ v. v.editions) shown ∙ old.1,
      ap (λ v. v.front) shown ∙ old.2,
      subst IsLawful (sym shown) old.3,
      omega (arith, old.4, ap (λ v. v.standing.template.entries) shown),
      old.5,
      omega (arith, less),
      next ∙ ap (λ v. fold taken v.standing (take (p.stepped + 1) p.pending.items)) (sym shown),
    )

pub returns-clause-reply : goal.returns-clause-reply
returns-clause-reply c = λ entry at.
    let p = c.press.inside in
    let old = c.press.invariant in
    let s : State = p.replicas.next in
    let first : Entry = c.index-entry.result.now in
    let all : List Entry = p.history.front ++ take p.stepped p.pending.items in
    let same : first ≡ entry =
    c.index-entry.ensures ∙ get_or_from_slice_get p.pending.items p.stepped entry first (ap (λ (r : Record). slice_get r.pending r.stepped) c.press.view_is ∙ at) in
    c.step-reply.ensures.history all (after-stepped p.replicas.shown s p.history.front p.pending.items p.stepped old.3 old.2 old.7 old.4)
    ∙ ap (λ (t : Template). reply_after t all first) (template-stepped p.replicas.shown s p.pending.items p.stepped old.7)
    ∙ ap (λ e. reply_after p.replicas.shown.standing.template all e) same
    ∙ ap (λ (r : Record). reply_after r.template (so_far r) entry) c.press.view_is
