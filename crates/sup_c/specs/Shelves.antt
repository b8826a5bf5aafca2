-- What was listed: the rows, one by one.
use Rattle.std.specs.Prelude.{ℕ, ◌==◌, List, Option, Vec, slice_get, if◌then◌else◌}
use Rattle.std.specs.Global.{Global}
use Rattle.sup_types.specs.declared.view.Row.{Row}
use Rattle.sup_types.specs.declared.view.Seen.{Seen}
use Rattle.sup_types.specs.declared.view.Seen.TheVariants.{Up, Down}
use Rattle.sup_core.specs.State.{State, seen_of}

-- what a list of rows shows
abbrev pub rows_seen : Seen (Vec Row Global) → Seen (List Row)
rows_seen (Up rows) = Up rows.items
rows_seen Down = Down

-- the row with this index
abbrev pub row_seen : Seen (List Row) → ℕ → Seen (Option Row)
row_seen (Up rows) index = Up (slice_get rows index)
row_seen Down index = Down

-- what is listed once the row with this index is asked for: index 0 lists the rows anew
abbrev pub listed_at : ℕ → State → Seen (List Row) → Seen (List Row)
listed_at index state listed = if index == 0 then seen_of state state.rows else listed
