use Rattle.std.proofs.Common.{◌≡◌, ℕ, ◌+◌, ◌-◌, ◌<◌, List, [], ◌++◌, true, length, take, drop, ap, sym, ◌∙◌, subst, arith, length-append}
use Rattle.std.specs.Prelude.{fold}
use Rattle.std.proofs.lemmas.List.{take_rest}
use Rattle.sup_types.specs.declared.history.Entry.{Entry}
use Rattle.sup_types.specs.declared.template.Template.{Template}
use Rattle.sup_core.specs.State.{State}
use Rattle.sup_log.specs.Tokens.{Told, Sides, Sight, IsLawful, Record, in_one_step}
use Rattle.sup_log.specs.Fronts.{Follows}
use Rattle.sup_log.specs.PublicationLaws.{steps_grown}
use Rattle.sup_log.specs.Absorbing.{taken, grown}
use Rattle.sup_log.proofs.Publishing.{follows}
use Rattle.sup_log.proofs.Stepped.{stepped-all}
use Rattle.sup_log.proofs.press.Ready.publish.Goals as goal

-- the history, after one publication of these entries
abbrev longer : Told → List Entry → Told
longer history more = record { press = history.press; editions = history.editions ++ in_one_step more; front = history.front ++ more }

-- the replicas, after the rest of these entries
abbrev brought : Sides → List Entry → Sides
brought c more = record { shown = c.shown; next = fold taken c.next more; is_out = c.is_out }

-- that makes the other copy the supervisor after all of them
up : (c new : Sides) (items now : List Entry) (k : ℕ) → c.next ≡ fold taken c.shown.standing (take k items) → now ≡ items
    → c.is_out ≡ true → new ≡ brought c (take (length now - k) (drop k now))
    → (new.shown ≡ c.shown) × (new.next ≡ fold taken c.shown.standing items) × (new.is_out ≡ true)
up c new items now k is same out taken' = (
  ap (λ (x : Sides). x.shown) taken',
  ap (λ (x : Sides). x.next) taken'
      ∙ ap (fold taken c.next) (take_rest now k ∙ ap (drop k) same)
      ∙ ap (λ (s : State). fold taken s (drop k items)) is
      ∙ stepped-all c.shown.standing items k,
  ap (λ (x : Sides). x.is_out) taken' ∙ out,
)

pub show-requires-clause-out : goal.show-requires-clause-out
show-requires-clause-out g c =
    let p = c.press.inside in
    (up p.replicas c.take_all.new.self p.pending.items c.deref.result.now p.stepped c.press.invariant.7 c.deref.ensures.value (ap (λ (r : Record). r.is_out) c.press.view_is ∙ c.args.self.out) c.take_all.ensures).2

pub show-requires-clause-stepped : goal.show-requires-clause-stepped
show-requires-clause-stepped g c =
    let p = c.press.inside in
    let to = up p.replicas c.take_all.new.self p.pending.items c.deref.result.now p.stepped c.press.invariant.7 c.deref.ensures.value (ap (λ (r : Record). r.is_out) c.press.view_is ∙ c.args.self.out) c.take_all.ensures in
    to.1 ∙ ap (λ (v : Sight). fold taken v.standing p.pending.items) (sym to.0)

pub show-requires-clause-follows : goal.show-requires-clause-follows
show-requires-clause-follows g c =
    let p = c.press.inside in
    let old = c.press.invariant in
    let items = p.pending.items in
    let told : c.extended-front.result ≡ longer p.history items =
    c.extended-front.ensures.told ∙ c.extended-front.ensures.grown ∙ ap (longer p.history) c.as_slice.ensures.value in
    let to = up p.replicas c.take_all.new.self items c.deref.result.now p.stepped old.7 c.deref.ensures.value (ap (λ (r : Record). r.is_out) c.press.view_is ∙ c.args.self.out) c.take_all.ensures in
    subst (λ (v : Sight). Follows v (grown v items c.extended-front.result)) (sym to.0)
    (follows p.history p.replicas.shown items c.extended-front.result old.0 old.2 old.3 (omega (arith, old.4)) told)

pub invariant_of-press : goal.invariant_of-press
invariant_of-press g c =
    let p = c.press.inside in
    let old = c.press.invariant in
    let items = p.pending.items in
    let told : c.extended-front.result ≡ longer p.history items =
    c.extended-front.ensures.told ∙ c.extended-front.ensures.grown ∙ ap (longer p.history) c.as_slice.ensures.value in
    let next : Follows p.replicas.shown (grown p.replicas.shown items c.extended-front.result) = follows p.history p.replicas.shown items c.extended-front.result old.0 old.2 old.3 (omega (arith, old.4)) told in
    let to = up p.replicas c.take_all.new.self items c.deref.result.now p.stepped old.7 c.deref.ensures.value (ap (λ (r : Record). r.is_out) c.press.view_is ∙ c.args.self.out) c.take_all.ensures in
    let shown : c.show.new.self.shown ≡ grown p.replicas.shown items c.extended-front.result = c.show.ensures.shown ∙ ap (λ (v : Sight). grown v items c.extended-front.result) to.0 in
    let long : length c.extended-front.new.history.front ≡ length p.history.front + length items =
    ap (λ t. length t.front) (sym c.extended-front.ensures.told ∙ told) ∙ length-append p.history.front items in
    let bound : p.replicas.shown.standing.template.entries ≡ c.show.new.self.shown.standing.template.entries = ap (λ (t : Template). t.entries) (next.0.1 ∙ sym (ap (λ v. v.standing.template) shown)) in
    let none : length c.show.new.entries.items ≡ 0 = ap length c.show.ensures.none in
    let some : 0 < length items = grind (arith, c.is_empty.ensures, c.if-is_empty.false) in
    let count : length c.extended-front.new.history.editions ≡ length p.history.editions + 1 =
    ap (λ t. length t.editions) (sym c.extended-front.ensures.told ∙ told) ∙ steps_grown p.history.editions items some in (
      ap (λ v. v.press) shown ∙ ap (λ t. t.press) c.extended-front.ensures.told,
      ap (λ v. v.editions) shown ∙ ap (λ t. t.editions) c.extended-front.ensures.told,
      ap (λ v. v.front) shown ∙ ap (λ t. t.front) c.extended-front.ensures.told,
      subst IsLawful (sym shown) next.1,
      omega (arith, old.4, long, bound, none),
      omega (arith, old.5, long, some, count),
      omega arith,
      c.show.ensures.next.0 ∙ to.1 ∙ sym (ap (λ (v : Sight). v.standing) shown),
    )

pub returns : goal.returns
returns g c =
    let p = c.press.inside in
    let old = c.press.invariant in
    let items = p.pending.items in
    let told : c.extended-front.result ≡ longer p.history items =
    c.extended-front.ensures.told ∙ c.extended-front.ensures.grown ∙ ap (longer p.history) c.as_slice.ensures.value in
    let next : Follows p.replicas.shown (grown p.replicas.shown items c.extended-front.result) = follows p.history p.replicas.shown items c.extended-front.result old.0 old.2 old.3 (omega (arith, old.4)) told in
    let to = up p.replicas c.take_all.new.self items c.deref.result.now p.stepped old.7 c.deref.ensures.value (ap (λ (r : Record). r.is_out) c.press.view_is ∙ c.args.self.out) c.take_all.ensures in
    let shown : c.show.new.self.shown ≡ grown p.replicas.shown items c.extended-front.result = c.show.ensures.shown ∙ ap (λ (v : Sight). grown v items c.extended-front.result) to.0 in
    let bound : c.show.new.self.shown.standing.template ≡ p.replicas.shown.standing.template = ap (λ v. v.standing.template) shown ∙ sym next.0.1 in
    let none : c.show.new.entries.items ≡ [] = c.show.ensures.none in
    let all : c.extended-front.new.history ≡ longer p.history p.pending.items =
    sym c.extended-front.ensures.told ∙ told in
    let step = λ (r : Record). let next : Record = record { press = r.press; template = r.template; editions = r.editions ++ in_one_step r.pending; published = r.published ++ r.pending; pending = []; stepped = 0; is_out = c.show.new.self.is_out } in next in
    (c.show.new.self.is_out, (λ i. record { press = (all i).press; template = bound i; editions = (all i).editions; published = (all i).front; pending = none i; stepped = 0; is_out = c.show.new.self.is_out }) ∙ ap step c.press.view_is)
