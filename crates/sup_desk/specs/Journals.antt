-- What a journal has recorded, and what it holds ready.
use Rattle.std.specs.Prelude.{List, [], ◌∷◌, ◌++◌, Option, Some, None}
use Rattle.sup_types.specs.declared.template.Template.{Template}
use Rattle.sup_types.specs.declared.history.Entry.{Entry}
use Rattle.sup_desk.specs.declared.journal.JournalFault.{JournalFault}

-- whatever the journal had recorded and held ready, it now holds this entry ready, too
abbrev pub HoldsOneMore : {J : Type 0} → (J → Template → List Entry → List Entry → Type 0) → J → J → Entry → Type 0
HoldsOneMore has old new entry =
    (template : Template) (recorded ready : List Entry) → has old template recorded ready → has new template recorded (ready ++ entry ∷ [])

-- whatever the journal had recorded and held ready, it has and holds still
abbrev pub HoldsAsBefore : {J : Type 0} → (J → Template → List Entry → List Entry → Type 0) → J → J → Type 0
HoldsAsBefore has old new =
    (template : Template) (recorded ready : List Entry) → has old template recorded ready → has new template recorded ready

-- whatever it held ready, it now has recorded
abbrev pub HasAll : {J : Type 0} → (J → Template → List Entry → List Entry → Type 0) → J → J → Type 0
HasAll has old new =
    (template : Template) (recorded ready : List Entry) → has old template recorded ready → has new template (recorded ++ ready) []

-- whatever it held ready, the record of it broke off
abbrev pub IsTornOff : {J : Type 0} → (J → Template → List Entry → List Entry → Type 0) → (J → Template → List Entry → List Entry → Type 0) → J → J → Type 0
IsTornOff has torn old new =
    (template : Template) (recorded ready : List Entry) → has old template recorded ready → torn new template recorded ready

-- a journal that goes on has recorded what is published and holds ready what is pending; with one that broke off, some of what
-- is pending may be recorded, and it will never be published
abbrev pub IsKept : (List Entry → List Entry → Type 0) → (List Entry → List Entry → Type 0) → (JournalFault → Type 0) → Option JournalFault → List Entry → List Entry → Type 0
IsKept has torn may None published pending = has published pending
IsKept has torn may (Some fault) published pending = torn published pending × may fault

-- the journal of a desk that was closed with this history has recorded just that; if it broke off, it has recorded that, and
-- perhaps some of what was refused
abbrev pub HasJust : (List Entry → List Entry → Type 0) → (List Entry → List Entry → Type 0) → (JournalFault → Type 0) → Option JournalFault → List Entry → Type 0
HasJust has torn may None history = has history []
HasJust has torn may (Some fault) history = ((refused : List Entry) × torn history refused) × may fault
