-- What the queries answer after a history, computed from its account.
use Rattle.std.specs.Prelude.{ℕ, List, Option}
use Rattle.sup_types.specs.declared.template.Template.{Template}
use Rattle.sup_types.specs.declared.view.Counts.{Counts}
use Rattle.sup_types.specs.declared.view.Row.{Row}
use Rattle.sup_types.specs.declared.view.Seen.{Seen}
use Rattle.sup_types.specs.declared.history.Entry.{Entry}
use Rattle.sup_core.specs.Rows.{row_at, counts_of}
use Rattle.sup_core.specs.State.{seen_of}
use Rattle.sup_core.specs.Account.{account, listed_rows, state_after}

-- the listed children, by ascending numbers
abbrev pub which : Template → List Entry → Seen (List Row)
which template history = seen_of (state_after template history) (listed_rows (account template history))

-- how many there are
abbrev pub count : Template → List Entry → Seen Counts
count template history = seen_of (state_after template history) (counts_of template.kind (listed_rows (account template history)))

-- the listed child with this number
abbrev pub child : Template → List Entry → ℕ → Seen (Option Row)
child template history number = seen_of (state_after template history) (row_at number (listed_rows (account template history)))
