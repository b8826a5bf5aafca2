-- What is answered to a question about a view, while the supervisor is up.
use Rattle.std.specs.Prelude.{◌≡◌, Bool, true, false}
use Rattle.std.specs.Borrow.{Bor}
use Rattle.std.specs.Fn.{Once, FnOnceReturnsAt}
use Rattle.sup_types.specs.declared.view.Seen.{Seen}
use Rattle.sup_types.specs.declared.view.Seen.TheVariants.{Up, Down}

-- a call of f at x answered this, or it was not called since the supervisor is down
unfoldable pub IsAnswered : {F X T : Type 0} → Once F (Bor X × Unit {0}) T → F → X → Bool → Seen T → Type 0
IsAnswered g f x down (Up r) = (down ≡ false) × FnOnceReturnsAt g f x r
IsAnswered g f x down Down = down ≡ true
