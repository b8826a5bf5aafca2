-- One more of the places.
use Rattle.std.proofs.Common.{◌≡◌, ◌<◌, ◌+◌, ◌∙◌, sym, refl, ap, subst, arith, length, nat_eq, true, false}
use Rattle.std.specs.Prelude.{Option, Some, None, slice_index_or, is_some}
use Rattle.indexmap.specs.IndexMap.{spare, IsUnique}
use Rattle.sup_core.specs.declared.child.Child.{Child}
use Rattle.sup_core.specs.Children.{Place}
use Rattle.sup_core.proofs.GatherLemmas.{Gathered, gathered-skip, gathered-move, gathered-stay, gathered-next}
use Rattle.sup_core.proofs.table.gather.Goals as goal
use Rattle.sup_core.proofs.table.gather.Goals.{then-is_listed, then-kept-index, else-kept-index, else-is_listed}

child-of : (o : Option Child) → is_some o ≡ true → (child : Child) × (o ≡ Some child)
child-of None some = absurd (cc)
child-of (Some child) some = (child, refl)

no-child : (o : Option Child) → is_some o ≡ false → o ≡ None
no-child None none = refl
no-child (Some child) none = absurd (cc)

pub loop-index-preserved : goal.loop-index-preserved
loop-index-preserved g c =
    let before = c.args.children.now.entries in
    let places = c.loop-index.children.entries in
    let i = c.loop-index.index in
    let kept = c.loop-index.kept in
    let d : Place = (0, None) in
    let within : i < length before = omega (arith, c.loop-index-test.true, c.len-index-end.ensures.len) in
    let next = gathered-next before places i kept d c.loop-index.invariant.0 within in
    let here : is_some (slice_index_or before i d).1 ≡ c.is_listed.result = ap (λ (p : Place). is_some p.1) (sym next) ∙ sym c.is_listed.ensures in
    elim c.if-is_listed.branch [
      | then-is_listed w ↦
          let (child, is) = child-of (slice_index_or before i d).1 (here ∙ w.if-is_listed.true) in
          elim w.if-kept-index.branch [
            | then-kept-index w' ↦
                let same = w.children-is ∙ w'.children-is in
                let moved = gathered-move before places i kept d child c.loop-index.invariant.0 within is w'.if-kept-index.true in (
                  subst (λ k. Gathered before c.if-is_listed.children.entries (i + 1) k) (sym w.kept-is)
                      (subst (λ l. Gathered before l (i + 1) (kept + 1)) (sym (ap (λ m. m.entries) same ∙ w'.swap_indices.ensures.entries)) moved),
                  omega (arith, ap spare same, w'.swap_indices.ensures.room.0, c.loop-index.invariant.1),
                  subst (IsUnique nat_eq) (sym same) w'.swap_indices.ensures.unique,
                )
            | else-kept-index w' ↦
                let same = w.children-is ∙ w'.children-is in
                let stayed = gathered-stay before places i kept d child c.loop-index.invariant.0 within is w'.if-kept-index.false in (
                  subst (λ k. Gathered before c.if-is_listed.children.entries (i + 1) k) (sym w.kept-is)
                      (subst (λ l. Gathered before l (i + 1) (kept + 1)) (sym (ap (λ m. m.entries) same)) stayed),
                  omega (arith, ap spare same, c.loop-index.invariant.1),
                  subst (IsUnique nat_eq) (sym same) c.loop-index.invariant.2,
                )
          ]
      | else-is_listed w ↦
          let same = w.children-is in
          let skipped = gathered-skip before places i kept d c.loop-index.invariant.0 within (no-child (slice_index_or before i d).1 (here ∙ w.if-is_listed.false)) in (
            subst (λ k. Gathered before c.if-is_listed.children.entries (i + 1) k) (sym w.kept-is) (subst (λ l. Gathered before l (i + 1) kept) (sym (ap (λ m. m.entries) same)) skipped),
            omega (arith, ap spare same, c.loop-index.invariant.1),
            subst (IsUnique nat_eq) (sym same) c.loop-index.invariant.2,
          )
    ]
