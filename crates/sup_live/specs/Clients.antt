-- What a client of a crew knows after a call.
use Rattle.std.specs.Prelude.{◌≡◌}
use mathlib.Core.List.{IsPrefix}
use Rattle.sup_desk.specs.Knowledge.{Knowledge}

-- after a query: what it had seen begins what it has seen, publication by publication, and it made no update
abbrev pub HasAsked : Knowledge → Knowledge → Type 0
HasAsked before after =
    IsPrefix before.front after.front × IsPrefix before.editions after.editions × (after.calls ≡ before.calls) × (after.number ≡ before.number)
