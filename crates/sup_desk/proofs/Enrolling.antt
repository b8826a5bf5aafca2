-- Each step keeps the rule of the session registry.
use Rattle.std.proofs.Common.{◌≡◌, ◌≢◌, ◌⊎◌, ℕ, zero, suc, ◌+◌, true, false, true≢false, cond, eq-eqb, ne_eqb, List, [], ◌∷◌, ◌++◌, length, set, refl, sym, ap, ◌∙◌, subst, inl, inr, ⊎_elim, arith, append-nil}
use Rattle.std.specs.Prelude.{◌==◌}
use mathlib.Core.Option.{none, some, some-ne-none, some-injective}
use lib.ListN.{get_elem?}
use Rattle.atomic_table.specs.Table.{State, Me, Allows, Splits, Joins, step, keeps}
use Rattle.atomic_table.proofs.Lists.{at_set, set_again}
use Rattle.sup_types.specs.declared.history.Entry.{Entry}
use Rattle.sup_desk.specs.declared.sessions.Known.{Known}
use Rattle.sup_desk.specs.Books.{IsMade}
use Rattle.sup_desk.specs.Knowledge.{entries_of}
use Rattle.sup_desk.specs.EntryLaws.{entries-append}
use Rattle.sup_desk.proofs.Counted.{others_none, own_all}
use Rattle.sup_desk.specs.Sessions.{keeper_view, nobody, opened, newcomer, joined, kept, handed, Fits, Enrols, Entered}

abbrev Table : Type 0
Table = State (Unit {0}) Known

abbrev holds : Table → Type 0
holds s = Enrols s.views

abbrev AllFit : ℕ → (ℕ → ℕ) → List Entry → ℕ → List Known → Type 0
AllFit place places history made views = (seat : ℕ) (v : Known) → get_elem? views seat ≡ some v → Fits place places history made seat v

off : false ≡ true → ⊥
off e = true≢false (sym e)

fits_set : (place : ℕ) (places : ℕ → ℕ) (history : List Entry) (made : ℕ) (views : List Known) (seat : ℕ) (w : Known)
    → ((j : ℕ) (u : Known) → j ≢ seat → get_elem? views j ≡ some u → Fits place places history made j u) → Fits place places history made seat w → AllFit place places history made (set views seat w)
fits_set place places history made views seat w others mine j u e =
    ⊎_elim
    (λ (x : (j ≡ seat) × (w ≡ u)). subst (λ (y : ℕ × Known). Fits place places history made y.0 y.1) (λ i. (sym x.0 i, x.1 i)) mine)
    (λ (x : (j ≢ seat) × (get_elem? views j ≡ some u)). others j u x.0 x.1)
    (at_set views seat j w u e)

at_end : (l : List Known) (a b : Known) (j : ℕ) → get_elem? (l ++ a ∷ []) j ≡ some b → (get_elem? l j ≡ some b) ⊎ ((j ≡ length l) × (a ≡ b))
at_end [] a b zero e = inr (refl, some-injective a b e)
at_end [] a b (suc j) e = absurd (some-ne-none b (sym e))
at_end (x ∷ xs) a b zero e = inl e
at_end (x ∷ xs) a b (suc j) e = ⊎_elim (λ t. inl t) (λ (t : (j ≡ length xs) × (a ≡ b)). inr (ap suc t.0, t.1)) (at_end xs a b j e)

fits_snoc : (place : ℕ) (places : ℕ → ℕ) (history : List Entry) (made : ℕ) (views : List Known) (w : Known)
    → AllFit place places history made views → Fits place places history made (length views) w → AllFit place places history made (views ++ w ∷ [])
fits_snoc place places history made views w old mine j u e =
    ⊎_elim (λ t. old j u t)
    (λ (x : (j ≡ length views) × (w ≡ u)). subst (λ (y : ℕ × Known). Fits place places history made y.0 y.1) (λ i. (sym x.0 i, x.1 i)) mine)
    (at_end views w u j e)

fits_nobody : (place : ℕ) (places : ℕ → ℕ) (history : List Entry) (made seat : ℕ) → Fits place places history made seat nobody
fits_nobody place places history made seat = ((λ k. absurd (off k)), (λ c. absurd (off c)))

-- the places with one changed
abbrev put : (ℕ → ℕ) → ℕ → ℕ → ℕ → ℕ
put places n to w = cond (n == w) to (places w)

put-here : (places : ℕ → ℕ) (n to w : ℕ) → n ≡ w → put places n to w ≡ to
put-here places n to w e = ap (λ b. cond b to (places w)) (eq-eqb n w e)

put-else : (places : ℕ → ℕ) (n to w : ℕ) → n ≢ w → put places n to w ≡ places w
put-else places n to w e = ap (λ b. cond b to (places w)) (ne_eqb n w e)

pub begins : Enrols (keeper_view [] 0 ∷ [])
begins = (0, (λ _. 0), [], 0, one)
  where
    one : AllFit 0 (λ _. 0) [] 0 (keeper_view [] 0 ∷ [])
    one zero v e = subst (Fits 0 (λ _. 0) [] 0 0) (some-injective _ _ e) ((λ _. (refl, refl, refl)), (λ c. absurd (off c)))
    one (suc j) v e = absurd (some-ne-none v (sym e))

pub opens : (id : ℕ) (history : List Entry) (made : ℕ) → Splits holds id (keeper_view history made) (opened (keeper_view history made)) (newcomer (keeper_view history made))
opens id history made s h at =
    let place = h.0 in let places = h.1 in let all = h.2 in let many = h.3 in
    let v = keeper_view history made in
    let mine = (h.4 id v at).0 refl in
    let views' : List Known = set s.views id (opened v) in
    let next = made + 1 in
    let places' : ℕ → ℕ = put places next (suc (length views')) in
    let old : AllFit place places' all (many + 1) views' =
    fits_set place places' all (many + 1) s.views id (opened v)
    (λ j u apart e.
    let f = h.4 j u e in (
      (λ k. absurd (apart ((f.0 k).0 ∙ sym mine.0))),
      (λ c.
          let g = f.1 c in
          let other : next ≢ u.number = λ same. let low = g.1.1 in let is = mine.2 in omega (arith, same, low, is) in
          (put-else places next (suc (length views')) u.number other ∙ g.0, (g.1.0, let low = g.1.1 in omega (arith, low)), g.2)),
    ))
    ((λ _. (mine.0, mine.1, ap (λ n. n + 1) mine.2)), (λ c. absurd (off c))) in (
      place,
      places',
      all,
      many + 1,
      fits_snoc place places' all (many + 1) views' (newcomer v) old
          ((λ k. absurd (off k)), (λ _. (put-here places next (suc (length views')) next refl, (omega arith, let is = mine.2 in omega (arith, is)), ap (λ l. entries_of l next) mine.1))),
    )

pub spares : (id : ℕ) (v : Known) → Splits holds id v v nobody
spares id v s h at = (
  h.0,
  h.1,
  h.2,
  h.3,
  fits_snoc h.0 h.1 h.2 h.3 (set s.views id v) nobody
      (λ j u e. h.4 j u (subst (λ l. get_elem? l j ≡ some u) (set_again s.views id v at) e))
      (fits_nobody h.0 h.1 h.2 h.3 (length (set s.views id v))),
)

pub takes : (id : ℕ) (history : List Entry) (made : ℕ) (other : ℕ) (u : Known) → u.is_token ≡ true
    → Joins holds id (keeper_view history made) other u (joined (keeper_view history made) u) nobody
takes id history made other u tokens s h at apart there =
    let place = h.0 in let places = h.1 in let all = h.2 in let many = h.3 in
    let v = keeper_view history made in
    let w = joined v u in
    let mine = (h.4 id v at).0 refl in
    let is_there : get_elem? s.views other ≡ some u = ⊎_elim (λ (t : (other ≡ id) × (w ≡ u)). absurd (apart t.0)) (λ (t : (other ≢ id) × (get_elem? s.views other ≡ some u)). t.1) (at_set s.views id other w u there) in
    let theirs = (h.4 other u is_there).1 tokens in
    let places' : ℕ → ℕ = put places u.number (suc id) in
    let still : (j : ℕ) (x : Known) → j ≢ other → get_elem? s.views j ≡ some x → j ≢ id → Fits place places' all many j x = λ j x far e away.
    let f = h.4 j x e in (
      f.0,
      (λ c.
          let g = f.1 c in
          let differ : u.number ≢ x.number = λ same. let is : suc other ≡ suc j = sym theirs.0 ∙ ap places same ∙ g.0 in far (omega (arith, is)) in
          (put-else places u.number (suc id) x.number differ ∙ g.0, g.1, g.2)),
    ) in
    let joins : Fits place places' all many id w = ((λ _. mine), (λ _. (put-here places u.number (suc id) u.number refl, theirs.1, theirs.2))) in (
      place,
      places',
      all,
      many,
      fits_set place places' all many (set s.views id w) other nobody
          (λ j x far e. ⊎_elim
          (λ (t : (j ≡ id) × (w ≡ x)). subst (λ (y : ℕ × Known). Fits place places' all many y.0 y.1) (λ i. (sym t.0 i, t.1 i)) joins)
          (λ (t : (j ≢ id) × (get_elem? s.views j ≡ some x)). still j x far t.1 t.0)
          (at_set s.views id j w x e))
          (fits_nobody place places' all many other),
    )

pub hands : (id : ℕ) (v : Known) → v.keeps ≡ true → v.is_token ≡ true → Splits holds id v (kept v) (handed v)
hands id v knows tokens s h at =
    let place = h.0 in let places = h.1 in let all = h.2 in let many = h.3 in
    let mine = (h.4 id v at).0 knows in
    let held = (h.4 id v at).1 tokens in
    let views' : List Known = set s.views id (kept v) in
    let places' : ℕ → ℕ = put places v.number (suc (length views')) in
    let old : AllFit place places' all many views' =
    fits_set place places' all many s.views id (kept v)
    (λ j u apart e.
    let f = h.4 j u e in (
      f.0,
      (λ c.
          let g = f.1 c in
          let differ : v.number ≢ u.number = λ same. let is : suc id ≡ suc j = sym held.0 ∙ ap places same ∙ g.0 in apart (omega (arith, is)) in
          (put-else places v.number (suc (length views')) u.number differ ∙ g.0, g.1, g.2)),
    ))
    ((λ _. mine), (λ c. absurd (off c))) in (
      place,
      places',
      all,
      many,
      fits_snoc place places' all many views' (handed v) old
          ((λ k. absurd (off k)), (λ _. (put-here places v.number (suc (length views')) v.number refl, held.1, held.2))),
    )

abbrev with_entries : List Entry → Known → Known
with_entries entries v = record { keeps = v.keeps; history = v.history ++ entries; made = v.made; is_token = v.is_token; number = v.number; calls = v.calls ++ entries }

pub enters : (slots id : ℕ) (entries : List Entry) (v : Known) → v.keeps ≡ true → v.is_token ≡ true → entries_of entries v.number ≡ entries
    → Allows holds slots id (v, []) 0 (λ n. n) (Entered entries (step slots 0 0 0 none) (v, []))
enters slots id entries v knows tokens own s h homes at small =
    let place = h.0 in let places = h.1 in let all = h.2 in let many = h.3 in
    let mine = (h.4 id v at).0 knows in
    let held = (h.4 id v at).1 tokens in
    let w = with_entries entries v in (
      w,
      keeps,
      tt,
      (
        place,
        places,
        all ++ entries,
        many,
        fits_set place places (all ++ entries) many s.views id w
            (λ j u apart e.
            let f = h.4 j u e in (
              (λ k. absurd (apart ((f.0 k).0 ∙ sym mine.0))),
              (λ c.
                  let g = f.1 c in
                  let differ : v.number ≢ u.number = λ same. let is : suc id ≡ suc j = sym held.0 ∙ ap places same ∙ g.0 in apart (omega (arith, is)) in
                  (g.0, g.1, g.2 ∙ sym (entries-append u.number all entries ∙ ap (λ l. entries_of all u.number ++ l) (others_none v.number u.number entries (own_all v.number entries own) (λ same. differ (sym same))) ∙ append-nil (entries_of all u.number)))),
            ))
            ((λ _. (mine.0, ap (λ l. l ++ entries) mine.1, mine.2)), (λ _. (held.0, held.1, ap (λ l. l ++ entries) held.2 ∙ sym (entries-append v.number all entries ∙ ap (λ l. entries_of all v.number ++ l) own)))),
      ),
      (held.2 ∙ ap (λ l. entries_of l v.number) (sym mine.1), subst (λ n. IsMade n v.number) (sym mine.2) held.1, refl),
    )

-- ---- the same of a seat whose view is known

pub opens_as : (id : ℕ) (v : Known) (history : List Entry) (made : ℕ) → v ≡ keeper_view history made → Splits holds id v (opened v) (newcomer v)
opens_as id v history made is = subst (λ (x : Known). Splits holds id x (opened x) (newcomer x)) (sym is) (opens id history made)

pub takes_as : (id other : ℕ) (v u : Known) (history : List Entry) (made : ℕ) → v ≡ keeper_view history made → u.is_token ≡ true → Joins holds id v other u (joined v u) nobody
takes_as id other v u history made is tokens = subst (λ (x : Known). Joins holds id x other u (joined x u) nobody) (sym is) (takes id history made other u tokens)

pub enters_as : (slots id : ℕ) (entries : List Entry) (me : Me (Unit {0}) Known) → me.0.keeps ≡ true → me.0.is_token ≡ true → entries_of entries me.0.number ≡ entries → me.1 ≡ []
    → Allows holds slots id me 0 (λ n. n) (Entered entries (step slots 0 0 0 none) me)
enters_as slots id entries (v, held) knows tokens own nothing =
    subst (λ l. Allows holds slots id (v, l) 0 (λ n. n) (Entered entries (step slots 0 0 0 none) (v, l))) (sym nothing) (enters slots id entries v knows tokens own)
