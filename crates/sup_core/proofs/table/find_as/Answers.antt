-- The status of the child that is found is that of its row.
use Rattle.std.proofs.Common.{◌≡◌, ◌∙◌, sym, ap, Bool, true, false, inl, inr}
use Rattle.std.specs.Prelude.{Some, None, unwrap_or, if◌then◌else◌}
use Rattle.std.proofs.lemmas.Bool.{cases_Bool, cond-true, cond-false}
use Rattle.sup_types.specs.declared.text.Text.{Text}
use Rattle.sup_types.specs.declared.view.Row.{Row}
use Rattle.sup_core.specs.Rows.{is_status}
use Rattle.sup_core.specs.Children.{listed}
use Rattle.sup_core.proofs.PlaceLemmas.{any-none}
use Rattle.sup_core.proofs.IndexLemmas.{stands-at, argument-at}
use Rattle.sup_core.proofs.table.find_as.Goals as goal

none-if : (has : Bool) (arg : Text) → None ≡ (if has then Some arg else None) → has ≡ false
none-if has arg is = elim (cases_Bool has) [
  | inl holds ↦ let there = is ∙ cond-true has (Some arg) None holds in absurd (cc)
  | inr fails ↦ fails
]

some-if : (has : Bool) (arg given : Text) → Some given ≡ (if has then Some arg else None) → (has ≡ true) × (given ≡ arg)
some-if has arg given is = elim (cases_Bool has) [
  | inl holds ↦ (holds, ap (λ o. unwrap_or o arg) (is ∙ cond-true has (Some arg) None holds))
  | inr fails ↦ let there = is ∙ cond-false has (Some arg) None fails in absurd (cc)
]

pub returns-in_err-index-clause-none : goal.returns-in_err-index-clause-none
returns-in_err-index-clause-none g c =
    rw c.from_residual.ensures (any-none c.args.number (λ (row : Row). is_status c.args.status row.status) (listed c.args.children.now.entries) c.in_err-index.ensures.none)

pub returns-in_err-argument_as-clause-none : goal.returns-in_err-argument_as-clause-none
returns-in_err-argument_as-clause-none g c =
    let child = c.in_ok-index.child.now in
    rw c.from_residual-in_err-argument_as.ensures (
    stands-at c.args.status c.args.number c.args.children.now.entries c.in_ok-index.index child c.requires c.in_ok-index.ensures.some
    ∙ none-if (is_status c.args.status child.status) child.arg c.in_err-argument_as.ensures
    )

pub returns-clause-some : goal.returns-clause-some
returns-clause-some g c =
    let child = c.in_ok-index.child.now in
    let entries = c.args.children.now.entries in
    let given = some-if (is_status c.args.status child.status) child.arg c.in_ok-argument_as.field-0 c.in_ok-argument_as.ensures in (
      stands-at c.args.status c.args.number entries c.in_ok-index.index child c.requires c.in_ok-index.ensures.some ∙ given.0,
      given.1 ∙ sym (argument-at c.args.number entries c.in_ok-index.index child c.requires c.in_ok-index.ensures.some),
    )
