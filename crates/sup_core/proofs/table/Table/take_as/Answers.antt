-- One row goes.
use Rattle.std.proofs.Common.{◌∙◌, List, sym, ap, subst, arith, nat_eq, None}
use Rattle.std.specs.List.{list_any, IsDistinct}
use Rattle.indexmap.proofs.CallerLemmas.{keys-with_value_at, index_map_len-with_value_at}
use Rattle.sup_types.specs.declared.view.Row.{Row}
use Rattle.sup_core.specs.Rows.{stands_as, argument_at, without}
use Rattle.sup_core.specs.Children.{Listed, one_if}
use Rattle.sup_core.proofs.PlaceLemmas.{is_running-status}
use Rattle.sup_core.proofs.IndexLemmas.{left-at, absent-index}
use Rattle.sup_core.proofs.table.Table.take_as.Goals as goal

pub overflow_sub-self-2 : goal.overflow_sub-self-2
overflow_sub-self-2 g c =
    let there = c.in_ok-index.ensures.there in
    let left = left-at c.args.number c.self.inside.children.entries c.in_ok-index.index there.0 c.self.invariant.0 there.1 in
    omega (arith, left.running, c.one_if.ensures, ap one_if (c.is_running.ensures ∙ sym (is_running-status c.args.status there.0.status there.2)), c.self.invariant.4)

pub invariant_of-self : goal.invariant_of-self
invariant_of-self g c =
    let map = c.self.inside.children in
    let i = c.in_ok-index.index in
    let there = c.in_ok-index.ensures.there in
    let left = left-at c.args.number map.entries i there.0 c.self.invariant.0 there.1 in
    let runs = ap one_if (c.is_running.ensures ∙ sym (is_running-status c.args.status there.0.status there.2)) in (
      subst (IsDistinct nat_eq) (sym (keys-with_value_at map i None)) c.self.invariant.0,
      λ number past. absent-index number map.entries i None (c.self.invariant.1 number past),
      omega (arith, left.live, c.self.invariant.2),
      omega (arith, c.self.invariant.3),
      omega (arith, left.running, c.one_if.ensures, runs, c.self.invariant.4),
      omega (arith, index_map_len-with_value_at map i None, c.self.invariant.5),
      c.self.invariant.6,
    )

pub returns-clause-taken : goal.returns-clause-taken
returns-clause-taken g c =
    let k = c.args.number in
    let map = c.self.inside.children in
    let there = c.in_ok-index.ensures.there in
    let left = left-at k map.entries c.in_ok-index.index there.0 c.self.invariant.0 there.1 in
    let state : List Row → Listed = λ rows. record { rows = rows; made = c.self.inside.made; max = c.self.inside.max } in (
      ap (λ (t : Listed). list_any (stands_as c.args.status k) t.rows) (sym c.self.view_is) ∙ c.in_ok-index.ensures.some.0,
      c.in_ok-index.ensures.some.1 ∙ ap (λ (t : Listed). argument_at k t.rows) c.self.view_is,
      ap state left.rows ∙ ap (λ (t : Listed). record { rows = without k t.rows; made = t.made; max = t.max }) c.self.view_is,
    )

pub returns-clause-room : goal.returns-clause-room
returns-clause-room g c = λ _.
    let map = c.self.inside.children in
    let there = c.in_ok-index.ensures.there in
    let left = left-at c.args.number map.entries c.in_ok-index.index there.0 c.self.invariant.0 there.1 in
    omega (arith, left.live, c.self.invariant.2, c.self.invariant.3, ap (λ (t : Listed). t.max) c.self.view_is)
