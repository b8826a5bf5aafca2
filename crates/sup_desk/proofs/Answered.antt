-- What a copy after a front answers is what the recount says.
use Rattle.std.proofs.Common.{◌≡◌, ℕ, List, refl, ap, sym, ◌∙◌, subst, Bool, true, false, cond}
use Rattle.std.specs.Borrow.{Bor}
use Rattle.std.specs.Fn.{Once, FnOnceReturnsAt}
use Rattle.std.specs.Result.{IfOk}
use Rattle.std.specs.declared.result.Result.{Result}
use Rattle.std.specs.declared.result.Result.TheVariants.{Ok, Err}
use Rattle.sup_types.specs.declared.view.Seen.{Seen}
use Rattle.sup_types.specs.declared.view.Seen.TheVariants.{Up, Down}
use Rattle.sup_core.specs.State.{State}
use Rattle.sup_desk.specs.Asking.{IsAnswered}
use Rattle.sup_types.specs.declared.history.Entry.{Entry}
use Rattle.sup_types.specs.declared.template.Template.{Template}
use Rattle.sup_core.specs.Rows.{row_at, counts_of}
use Rattle.sup_core.specs.State.{seen_of}
use Rattle.sup_core.specs.Account.{account, is_down}
use Rattle.sup_core.specs.Queries.{which, count, child}
use Rattle.sup_log.specs.Tokens.{standing}

pub count_is : (template : Template) (history : List Entry)
    → seen_of (standing template history) (counts_of (standing template history).template.kind (standing template history).rows) ≡ count template history
unfolding standing
count_is template history = refl

pub child_is : (template : Template) (history : List Entry) (number : ℕ)
    → seen_of (standing template history) (row_at number (standing template history).rows) ≡ child template history number
unfolding standing
child_is template history number = refl

pub which_is : (template : Template) (history : List Entry) → seen_of (standing template history) (standing template history).rows ≡ which template history
unfolding standing
which_is template history = refl

pub down_is : (template : Template) (history : List Entry) → (standing template history).down ≡ is_down (account template history)
unfolding standing
down_is template history = refl

-- what is answered where each call gives this value
pub answered : {F X T E : Type 0} (g : Once F (Bor X × Unit {0}) T) (f : F) (x : X) (s : State) (value : T) (result : Result (Seen T) E)
    → IfOk result (λ seen. IsAnswered g f x s.down seen) → ((r : T) → FnOnceReturnsAt g f x r → r ≡ value) → IfOk result (λ seen. seen ≡ seen_of s value)
unfolding IsAnswered
answered g f x s value (Ok (Up r)) told gives = ap Up (gives r told.1) ∙ sym (ap (λ (b : Bool). cond b Down (Up value)) told.0)
answered g f x s value (Ok Down) told gives = sym (ap (λ (b : Bool). cond b Down (Up value)) told)
answered g f x s value (Err e) told gives = tt

pub answered_up : {F X T : Type 0} (g : Once F (Bor X × Unit {0}) T) (f : F) (x : X) (down : Bool) (P : T → Type 0) (seen : Seen T) (r : T)
    → IsAnswered g f x down seen → seen ≡ Up r → ((r : T) → FnOnceReturnsAt g f x r → P r) → (down ≡ false) × P r
unfolding IsAnswered
answered_up g f x down P (Up s) r told is gives = (told.0, subst P (cc is) (gives s told.1))
answered_up g f x down P Down r told is gives = absurd (cc is)

pub answered_down : {F X T : Type 0} (g : Once F (Bor X × Unit {0}) T) (f : F) (x : X) (down : Bool) (seen : Seen T) → IsAnswered g f x down seen → seen ≡ Down → down ≡ true
unfolding IsAnswered
answered_down g f x down (Up s) told is = absurd (cc is)
answered_down g f x down Down told is = told
