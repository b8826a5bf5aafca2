-- One row more.
use Rattle.std.proofs.Common.{◌≡◌, ◌+◌, ◌++◌, ◌∷◌, [], List, ◌∙◌, ap, arith, length, length-append}
use Rattle.sup_types.specs.declared.view.Row.{Row}
use Rattle.sup_core.specs.Changes.{running}
use Rattle.sup_core.specs.Children.{Listed, listed, place_of, running_count}
use Rattle.sup_core.proofs.PlaceLemmas.{listed-push, running-push}
use Rattle.sup_core.proofs.table.Table.list.Goals as goal

pub invariant_of-self : goal.invariant_of-self
invariant_of-self g c =
    let before = c.self.inside.children.entries in
    let row : Row = running (c.self.inside.made + 1) c.args.arg.now in
    let rows : listed c.put_next.new.children.entries ≡ listed before ++ row ∷ [] = ap listed c.put_next.ensures.entries ∙ listed-push c.make_room.new.children.entries row.number (place_of row).1 ∙ ap (λ l. l ++ row ∷ []) c.make_room.ensures.rows in (
      c.put_next.ensures.unique,
      λ number past. c.put_next.ensures.absent number (omega arith) (c.make_room.ensures.absent number (c.self.invariant.1 number (omega arith))),
      omega (arith, ap length rows, length-append (listed before) (row ∷ []), c.self.invariant.2),
      omega (arith, c.requires.fits, ap (λ (t : Listed). length t.rows) c.self.view_is, ap (λ (t : Listed). t.max) c.self.view_is, c.self.invariant.2),
      omega (arith, ap running_count rows, running-push (listed before) row, c.self.invariant.4),
      omega (arith, c.put_next.ensures.room, c.make_room.ensures.room),
      c.self.invariant.6,
    )

pub returns-clause-next : goal.returns-clause-next
returns-clause-next g c =
    let before = c.self.inside.children.entries in
    let row : Row = running (c.self.inside.made + 1) c.args.arg.now in
    let rows : listed c.put_next.new.children.entries ≡ listed before ++ row ∷ [] = ap listed c.put_next.ensures.entries ∙ listed-push c.make_room.new.children.entries row.number (place_of row).1 ∙ ap (λ l. l ++ row ∷ []) c.make_room.ensures.rows in
    let state : List Row → Listed = λ rows. record { rows = rows; made = c.self.inside.made + 1; max = c.self.inside.max } in
    ap state rows
    ∙ ap (λ (t : Listed). record { rows = t.rows ++ running (t.made + 1) c.args.arg.now ∷ []; made = t.made + 1; max = t.max }) c.self.view_is
