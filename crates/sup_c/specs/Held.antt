-- What the handle of C holds.
use Rattle.std.specs.Prelude.{◌≡◌, ℕ, List, []}
use Rattle.sup_types.specs.declared.template.Template.{Template}
use Rattle.sup_types.specs.declared.history.Entry.{Entry}
use Rattle.sup_types.specs.declared.view.Row.{Row}
use Rattle.sup_types.specs.declared.view.Seen.{Seen}
use Rattle.sup_types.specs.declared.view.Seen.TheVariants.{Up}
use Rattle.sup_core.specs.State.{State}
use Rattle.sup_core.specs.Changes.{next_state}
use Rattle.sup_core.specs.Account.{IsAfter}
use Rattle.sup_c.specs.declared.held.Held.{Held}
use Rattle.sup_c.specs.declared.shelf.Shelf.{Shelf}
use Rattle.sup_c.specs.Shelves.{rows_seen}
use Rattle.sup_c.specs.Tokens.{token_in}

-- what is held, of a handle that is open
abbrev pub shelf_of : Held → Shelf
shelf_of held = held.seal.shelf

-- the supervisor, and the rows that were listed last
abbrev pub state_of : Held → State
state_of held = (shelf_of held).sup

abbrev pub listed_of : Held → Seen (List Row)
listed_of held = rows_seen (shelf_of held).listed

-- who remained when it went down, and the children's values
abbrev pub left_of : Held → Seen (List Row)
left_of held = rows_seen (shelf_of held).left

abbrev pub token_of : Held → ℕ → ℕ
token_of held number = token_in (shelf_of held).tokens number

abbrev pub none_listed : Seen (List Row)
none_listed = Up []

-- what is held after an entry: the supervisor is after it, and nothing else has changed
abbrev pub IsStepped : Shelf → Entry → Shelf → Type 0
IsStepped old entry new = (new.sup ≡ next_state old.sup entry) × (new.listed ≡ old.listed) × (new.left ≡ old.left) × (new.tokens ≡ old.tokens)

-- the handle holds what it held, if it held anything
abbrev pub IsKept : Held → Held → Type 0
IsKept old new = (new.is_open ≡ old.is_open) × (shelf_of new ≡ shelf_of old)

-- whatever is seen of it is the same, if it held anything
abbrev pub HasSame : Held → Held → Type 0
HasSame old new =
    (state_of new ≡ state_of old) × (listed_of new ≡ listed_of old) × (left_of new ≡ left_of old) × ((number : ℕ) → token_of new number ≡ token_of old number)

-- it holds of the template and of each history that the supervisor is after
abbrev pub AfterEach : Held → (Template → List Entry → Type 0) → Type 0
AfterEach held Holds = (history : List Entry) → IsAfter (state_of held) history → Holds (state_of held).template history
