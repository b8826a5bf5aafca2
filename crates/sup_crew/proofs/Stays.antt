-- A child that was made is in each front that begins with the one where it was made.
use Rattle.std.proofs.Common.{ℕ, ◌+◌, ◌≤◌, Bool, true, false, cond, List, [], ◌∷◌, ◌++◌, ap, sym, ◌∙◌, subst, arith, append_assoc, append-nil}
use mathlib.Core.List.{IsPrefix}
use Rattle.sup_types.specs.declared.template.Template.{Template}
use Rattle.sup_types.specs.declared.history.Entry.{Entry}
use Rattle.sup_core.specs.Account.{Item, account, made_count, item_of}
use Rattle.sup_core.specs.Changes.{makes_child}
use Rattle.sup_core.specs.AccountLaws.{account-push, made_count-push}
use Rattle.sup_crew.specs.Births.{IsBorn}

up : (b : Bool) (n : ℕ) → n ≤ cond b (n + 1) n
up true n = omega arith
up false n = omega arith

made_grows : (template : Template) (front more : List Entry) → made_count (account template front) ≤ made_count (account template (front ++ more))
made_grows template front [] = subst (λ (l : List Entry). made_count (account template front) ≤ made_count (account template l)) (sym (append-nil front)) (omega arith)
made_grows template front (e ∷ more) =
    let items = account template front in
    let item : Item = item_of template items e in
    let push = ap made_count (account-push template front e) ∙ made_count-push items item in
    let one = up (makes_child item.reply) (made_count items) in
    let rest = made_grows template (front ++ e ∷ []) more in
    let all = ap (λ (l : List Entry). made_count (account template l)) (append_assoc front (e ∷ []) more) in
    omega (arith, push, one, rest, all)

-- a child that was made in a front was made in each that begins with it
pub born_stays : (template : Template) (front later : List Entry) (number : ℕ) → IsPrefix front later → IsBorn template front number → IsBorn template later number
born_stays template front later number p born =
    let more = made_grows template front p.0 in
    let is = ap (λ (l : List Entry). made_count (account template l)) p.1 in
    let first = born.0 in
    let last = born.1 in
    (first, omega (arith, more, is, last))
