-- Places whose listed children are moved to the front, one after another.
use Rattle.std.proofs.Common.{◌≡◌, ℕ, ◌+◌, ◌<◌, ◌≤◌, List, [], ◌∷◌, ◌++◌, map, length, take, drop, get_or, ◌∙◌, sym, refl, ap, arith, length-append}
use Rattle.std.specs.Prelude.{Option, Some, None}
use Rattle.std.specs.List.{cons_option, swap}
use Rattle.std.specs.Option.{option_map}
use Rattle.std.proofs.Math.ListN.{set}
use Rattle.std.proofs.Math.Seq.{set-append_seam, get_or-append_seam}
use Rattle.std.proofs.lemmas.List.{append_assoc, drop_more, length-map, map-append}
use Rattle.std.proofs.lemmas.List.Edits.{swap_is}
use Rattle.std.proofs.lemmas.List.Elements.{filter_map-append}
use Rattle.sup_types.specs.declared.view.Row.{Row}
use Rattle.sup_core.specs.declared.child.Child.{Child}
use Rattle.sup_core.specs.Children.{Place, child_row, place_row, listed, place_of}
use Rattle.sup_core.proofs.PlaceLemmas.{listed-more}

-- so many places were passed: the listed children of them stand in front, so many, then empty places, and then the others as before
pub record Gathered (before places : List Place) (passed kept : ℕ) : Type 0 where
  pub empties : List Place
  pub none : listed empties ≡ []
  pub len : kept + length empties ≡ passed
  pub front : length (listed (take passed before)) ≡ kept
  pub are : places ≡ map place_of (listed (take passed before)) ++ (empties ++ drop passed before)

front-length : (rows : List Row) → length (map place_of rows) ≡ length rows
front-length rows = length-map rows place_of

-- a place that is empty
row-none : (x : Place) → x.1 ≡ None → place_row x ≡ None
row-none x is = ap (option_map (child_row x.0)) is

-- a place with a child is that of its row
row-some : (x : Place) (child : Child) → x.1 ≡ Some child → place_row x ≡ Some (child_row x.0 child)
row-some x child is = ap (option_map (child_row x.0)) is

place-some : (x : Place) (child : Child) → x.1 ≡ Some child → place_of (child_row x.0 child) ≡ x
place-some x child is = ap (λ (o : Option Child). (x.0, o)) (sym is)

listed-one : (x : Place) (o : Option Row) → place_row x ≡ o → listed (x ∷ []) ≡ cons_option o []
listed-one x o is = ap (λ r. cons_option r []) is

both-none : (o : Option Row) (rows : List Row) → cons_option o rows ≡ [] → (cons_option o [] ≡ []) × (rows ≡ [])
both-none None rows is = (refl, is)
both-none (Some row) rows is = absurd (cc)

-- the empty places, and one more
none-more : (empties : List Place) (x : Place) → listed empties ≡ [] → listed (x ∷ []) ≡ [] → listed (empties ++ x ∷ []) ≡ []
none-more empties x none last = filter_map-append place_row empties (x ∷ []) ∙ ap (λ l. l ++ listed (x ∷ [])) none ∙ last

pub gathered-skip : (before places : List Place) (passed kept : ℕ) (d : Place) → Gathered before places passed kept → passed < length before
    → (get_or before passed d).1 ≡ None → Gathered before places (passed + 1) kept
gathered-skip before places passed kept d g within is =
    let x = get_or before passed d in
    let empty : listed (x ∷ []) ≡ [] = listed-one x None (row-none x is) in
    let same : listed (take (passed + 1) before) ≡ listed (take passed before) =
    listed-more before passed d within ∙ ap (λ l. listed (take passed before) ++ l) empty ∙ sym (append_nil (listed (take passed before))) in
    record {
      empties = g.empties ++ x ∷ [];
      none = none-more g.empties x g.none empty;
      len = omega (arith, g.len, length-append g.empties (x ∷ []));
      front = ap length same ∙ g.front;
      are = g.are
          ∙ ap (λ rest. map place_of (listed (take passed before)) ++ (g.empties ++ rest)) (drop_more before passed d within)
          ∙ ap (λ rest. map place_of (listed (take passed before)) ++ rest) (sym (append_assoc g.empties (x ∷ []) (drop (passed + 1) before)))
          ∙ ap (λ rows. map place_of rows ++ (g.empties ++ x ∷ [] ++ drop (passed + 1) before)) (sym same);
    }
  where
    append_nil : (rows : List Row) → rows ≡ rows ++ []
    append_nil [] = refl
    append_nil (row ∷ rows) = ap (λ l. row ∷ l) (append_nil rows)

-- one more of the rows
more-rows : (before : List Place) (passed : ℕ) (d : Place) (child : Child) → passed < length before → (get_or before passed d).1 ≡ Some child
    → listed (take (passed + 1) before) ≡ listed (take passed before) ++ child_row (get_or before passed d).0 child ∷ []
more-rows before passed d child within is =
    let x = get_or before passed d in
    listed-more before passed d within ∙ ap (λ l. listed (take passed before) ++ l) (listed-one x (Some (child_row x.0 child)) (row-some x child is))

more-front : (before : List Place) (passed : ℕ) (d : Place) (child : Child) → passed < length before → (get_or before passed d).1 ≡ Some child
    → map place_of (listed (take (passed + 1) before)) ≡ map place_of (listed (take passed before)) ++ get_or before passed d ∷ []
more-front before passed d child within is =
    let x = get_or before passed d in
    let rows = listed (take passed before) in
    ap (map place_of) (more-rows before passed d child within is)
    ∙ map-append place_of rows (child_row x.0 child ∷ [])
    ∙ ap (λ p. map place_of rows ++ p ∷ []) (place-some x child is)

-- the first of the empty places and the one after them in each other's place
swap-between : (front : List Place) (e : Place) (empties : List Place) (x : Place) (rest : List Place)
    → swap (front ++ (e ∷ empties ++ x ∷ rest)) (length front) (length front + length (e ∷ empties)) ≡ front ++ x ∷ [] ++ (empties ++ e ∷ [] ++ rest)
swap-between front e empties x rest =
    let i = length front in
    let j = length front + length (e ∷ empties) in
    let all = front ++ (e ∷ empties ++ x ∷ rest) in
    let head : (y : Place) → front ++ (y ∷ empties ++ x ∷ rest) ≡ front ++ y ∷ empties ++ x ∷ rest = λ y. sym (append_assoc front (y ∷ empties) (x ∷ rest)) in
    let at : (y : Place) → length (front ++ y ∷ empties) ≡ j = λ y. length-append front (y ∷ empties) in
    let here : get_or all i e ≡ e = get_or-append_seam front e (empties ++ x ∷ rest) e in
    let there : get_or all j e ≡ x =
    ap (λ n. get_or all n e) (sym (at e)) ∙ ap (λ l. get_or l (length (front ++ e ∷ empties)) e) (head e) ∙ get_or-append_seam (front ++ e ∷ empties) x rest e in
    let whole : length all ≡ length front + (length (e ∷ empties) + length (x ∷ rest)) =
    length-append front (e ∷ empties ++ x ∷ rest) ∙ ap (λ n. length front + n) (length-append (e ∷ empties) (x ∷ rest)) in
    let first : set all i (get_or all j e) ≡ front ++ x ∷ empties ++ x ∷ rest =
    ap (set all i) there ∙ set-append_seam front e (empties ++ x ∷ rest) x ∙ head x in
    sym (swap_is all i j e (omega (arith, whole)) (omega (arith, whole)))
    ∙ ap (λ l. set l j (get_or all i e)) first
    ∙ ap (set (front ++ x ∷ empties ++ x ∷ rest) j) here
    ∙ ap (λ n. set (front ++ x ∷ empties ++ x ∷ rest) n e) (sym (at x))
    ∙ set-append_seam (front ++ x ∷ empties) x rest e
    ∙ append_assoc front (x ∷ empties) (e ∷ rest)
    ∙ ap (λ l. front ++ x ∷ l) (sym (append_assoc empties (e ∷ []) rest))
    ∙ sym (append_assoc front (x ∷ []) (empties ++ e ∷ [] ++ rest))

pub gathered-move : (before places : List Place) (passed kept : ℕ) (d : Place) (child : Child) → Gathered before places passed kept → passed < length before
    → (get_or before passed d).1 ≡ Some child → kept < passed → Gathered before (swap places kept passed) (passed + 1) (kept + 1)
gathered-move before places passed kept d child g within is some = by g.empties g.none g.len g.are
  where
    by : (empties : List Place) → listed empties ≡ [] → kept + length empties ≡ passed
        → places ≡ map place_of (listed (take passed before)) ++ (empties ++ drop passed before) → Gathered before (swap places kept passed) (passed + 1) (kept + 1)
    by [] none len are = absurd (omega (arith, len, some))
    by (e ∷ empties) none len are =
        let x = get_or before passed d in
        let front = map place_of (listed (take passed before)) in
        let rest = drop (passed + 1) before in
        let parts = both-none (place_row e) (listed empties) none in
        let kept_is : length front ≡ kept = front-length (listed (take passed before)) ∙ g.front in
        let passed_is : length front + length (e ∷ empties) ≡ passed = omega (arith, kept_is, len) in
        record {
          empties = empties ++ e ∷ [];
          none = none-more empties e parts.1 parts.0;
          len = omega (arith, len, length-append empties (e ∷ []));
          front = ap length (more-rows before passed d child within is) ∙ length-append (listed (take passed before)) (child_row x.0 child ∷ []) ∙ ap (λ n. n + 1) g.front;
          are = ap (λ l. swap l kept passed) (are ∙ ap (λ l. front ++ (e ∷ empties ++ l)) (drop_more before passed d within))
              ∙ ap (λ n. swap (front ++ (e ∷ empties ++ x ∷ rest)) n passed) (sym kept_is)
              ∙ ap (λ n. swap (front ++ (e ∷ empties ++ x ∷ rest)) (length front) n) (sym passed_is)
              ∙ swap-between front e empties x rest
              ∙ ap (λ l. l ++ (empties ++ e ∷ [] ++ rest)) (sym (more-front before passed d child within is));
        }

pub gathered-stay : (before places : List Place) (passed kept : ℕ) (d : Place) (child : Child) → Gathered before places passed kept → passed < length before
    → (get_or before passed d).1 ≡ Some child → passed ≤ kept → Gathered before places (passed + 1) (kept + 1)
gathered-stay before places passed kept d child g within is all = by g.empties g.len g.are
  where
    by : (empties : List Place) → kept + length empties ≡ passed
        → places ≡ map place_of (listed (take passed before)) ++ (empties ++ drop passed before) → Gathered before places (passed + 1) (kept + 1)
    by (e ∷ empties) len are = absurd (omega (arith, len, all))
    by [] len are =
        let x = get_or before passed d in
        let front = map place_of (listed (take passed before)) in
        let rest = drop (passed + 1) before in
        record {
          empties = [];
          none = refl;
          len = omega (arith, len);
          front = ap length (more-rows before passed d child within is) ∙ length-append (listed (take passed before)) (child_row x.0 child ∷ []) ∙ ap (λ n. n + 1) g.front;
          are = are
              ∙ ap (λ l. front ++ l) (drop_more before passed d within)
              ∙ sym (append_assoc front (x ∷ []) rest)
              ∙ ap (λ l. l ++ rest) (sym (more-front before passed d child within is));
        }

-- the place that comes next is as before
pub gathered-next : (before places : List Place) (passed kept : ℕ) (d : Place) → Gathered before places passed kept → passed < length before
    → get_or places passed d ≡ get_or before passed d
gathered-next before places passed kept d g within =
    let x = get_or before passed d in
    let front = map place_of (listed (take passed before)) in
    let rest = drop (passed + 1) before in
    let at : length (front ++ g.empties) ≡ passed =
    length-append front g.empties ∙ omega (arith, front-length (listed (take passed before)), g.front, g.len) in
    ap (λ l. get_or l passed d) (g.are ∙ ap (λ l. front ++ (g.empties ++ l)) (drop_more before passed d within) ∙ sym (append_assoc front g.empties (x ∷ rest)))
    ∙ ap (λ n. get_or (front ++ g.empties ++ x ∷ rest) n d) (sym at)
    ∙ get_or-append_seam (front ++ g.empties) x rest d
