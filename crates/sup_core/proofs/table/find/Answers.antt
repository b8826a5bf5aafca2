-- A row is found where its child is.
use Rattle.std.proofs.Common.{◌≡◌, ◌∙◌, sym, ap, nat_eq, Some, None}
use Rattle.std.specs.Prelude.{Option}
use Rattle.std.specs.Option.{option_map}
use Rattle.std.specs.Map.{lookup}
use Rattle.sup_core.specs.Children.{child_row}
use Rattle.sup_core.specs.declared.child.Child.{Child}
use Rattle.sup_core.proofs.PlaceLemmas.{row_at-listed, found}
use Rattle.sup_core.proofs.IndexLemmas.{key-found}
use Rattle.sup_core.proofs.table.find.Goals as goal

pub returns-in_err-as_ref-in-Some-clause-none : goal.returns-in_err-as_ref-in-Some-clause-none
returns-in_err-as_ref-in-Some-clause-none g c =
    let entries = c.args.children.now.entries in
    let k = c.args.number in
    let none : lookup (nat_eq k) entries ≡ Some None = ap (λ n. lookup (nat_eq n) entries) (sym c.if-there-number.true) ∙ c.in-Some.ensures.value ∙ ap Some (sym c.in_err-as_ref-in-Some.ensures.value) in
    rw c.from_residual.ensures (row_at-listed k entries c.requires ∙ ap (λ o. option_map (child_row k) (found o)) none)

pub returns-in_err-index-in_default-clause-none : goal.returns-in_err-index-in_default-clause-none
returns-in_err-index-in_default-clause-none g c =
    let entries = c.args.children.now.entries in
    let k = c.args.number in
    let none : lookup (nat_eq k) entries ≡ None = sym c.in_err-index-in_default.ensures.value in
    rw c.from_residual-in_err-index-in_default.ensures (row_at-listed k entries c.requires ∙ ap (λ o. option_map (child_row k) (found o)) none)

pub returns-in_err-as_ref-in_default-clause-none : goal.returns-in_err-as_ref-in_default-clause-none
returns-in_err-as_ref-in_default-clause-none g c =
    let entries = c.args.children.now.entries in
    let k = c.args.number in
    let none : lookup (nat_eq k) entries ≡ Some None = sym c.in_ok-index-in_default.ensures.value ∙ ap Some (sym c.in_err-as_ref-in_default.ensures.value) in
    rw c.from_residual-in_err-as_ref-in_default.ensures (row_at-listed k entries c.requires ∙ ap (λ o. option_map (child_row k) (found o)) none)

pub returns-in_ok-as_ref-in_default-clause-some : goal.returns-in_ok-as_ref-in_default-clause-some
returns-in_ok-as_ref-in_default-clause-some g c =
    let is = key-found c.args.number c.in_ok-index-in_default.field-0-1.now c.args.children.now.entries (sym c.in_ok-index-in_default.ensures.key) in
    c.in_ok-index-in_default.ensures.entry
    ∙ ap (λ n. Some (n, c.in_ok-index-in_default.child.now)) is
    ∙ ap (λ (o : Option Child). Some (c.args.number, o)) (sym c.in_ok-as_ref-in_default.ensures.value)
