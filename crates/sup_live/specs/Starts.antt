-- Which children a handle started, by the replies to its calls.
use Rattle.std.specs.Prelude.{◌≡◌, ℕ, ◌==◌, List, [], ◌∷◌, ◌++◌, Option, None, Some, filter, drop}
use mathlib.Core.List.{IsPrefix}
use Rattle.sup_types.specs.declared.template.Template.{Template}
use Rattle.sup_types.specs.declared.history.Operation.{Operation}
use Rattle.sup_types.specs.declared.history.Operation.TheVariants.{Start}
use Rattle.sup_types.specs.declared.history.Entry.{Entry}
use Rattle.sup_types.specs.declared.history.Reply.{Reply}
use Rattle.sup_types.specs.declared.history.Reply.TheVariants.{Started}
use Rattle.sup_core.specs.Account.{Item, account}
use Rattle.sup_desk.specs.Knowledge.{Knowledge, entries_of}
use Rattle.sup_exits.specs.declared.exit.Child.{Child}

-- the child that a start with this reply made, under the number in the reply
abbrev pub started_as : Reply → List ℕ
started_as (Started number) = number ∷ []
started_as _ = []

-- what a child was to own is given back by a start that made none
abbrev pub given_back : {O : Type 0} → O → Reply → Option O
given_back own (Started number) = None
given_back own _ = Some own

abbrev pub with_arg : List ℕ → Operation → List Child
with_arg [] _ = []
with_arg (number ∷ rest) (Start arg) = record { number = number; arg = arg } ∷ []
with_arg (number ∷ rest) _ = []

abbrev pub child_started : Operation → Reply → List Child
child_started operation reply = with_arg (started_as reply) operation

-- what the account of a history has of this handle
abbrev pub items_of : List Item → ℕ → List Item
items_of items handle = filter (λ (i : Item). i.entry.handle == handle) items

-- what f makes of these operations and of the replies to them
abbrev pub made_of : {X : Type 0} → (Operation → Reply → List X) → List Item → List X
made_of f [] = []
made_of f (i ∷ is) = f i.entry.operation i.reply ++ made_of f is

-- what f makes of the operations of this handle and of their replies, from the call of this number on
abbrev pub replies_since : {X : Type 0} → (Operation → Reply → List X) → Template → ℕ → List Entry → ℕ → List X
replies_since f template since front handle = made_of f (drop since (items_of (account template front) handle))

-- This is what f makes of the handle's calls from that of this number on, each with the reply to it: in whatever front begins with the
-- handle's and has its calls, and no others under its number
abbrev pub HasReplies : {X : Type 0} → (Operation → Reply → List X) → Template → ℕ → Knowledge → List X → Type 0
HasReplies f template since handle replies =
    (front : List Entry) → IsPrefix handle.front front → entries_of front handle.number ≡ handle.calls → replies ≡ replies_since f template since front handle.number

-- these are the children that the handle started since
abbrev pub HasStarted : Template → ℕ → Knowledge → List Child → Type 0
HasStarted template since handle children = HasReplies child_started template since handle children
