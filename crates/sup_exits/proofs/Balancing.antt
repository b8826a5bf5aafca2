-- Each step of a ledger keeps its rule.
use Rattle.std.proofs.Common.{◌≡◌, ◌≢◌, ℕ, zero, suc, ◌+◌, ◌-◌, ◌^◌, ◌<◌, ◌≤◌, List, [], ◌∷◌, ◌++◌, length, set, take, drop, refl, sym, ap, ◌∙◌, subst, ⊎_elim, arith, length-append}
use mathlib.Core.Option.{some, none, some-ne-none, some-injective}
use lib.ListN.{get_elem?}
use Rattle.atomic_table.specs.Table.{State, Me, Allows, Splits, Joins, step, keeps}
use Rattle.atomic_table.proofs.Lists.{at_set, at_snoc, set_again}
use Rattle.sup_exits.specs.declared.exit.Child.{Child}
use Rattle.sup_exits.specs.declared.rule.Holding.{Holding}
use Rattle.sup_exits.specs.WeighLaws.{weigh-append, weigh-one}
use Rattle.sup_exits.specs.Accounts.{Accounted, IsSettled, capped}
use Rattle.sup_exits.specs.Holdings.{weigh, holding, nothing, IsIdle, AreIdle, Balances, AddUp, Bounds, Learns}

-- the total after a change of one view
weigh-set : {X : Type 0} (f : X → ℕ) (views : List X) (seat : ℕ) (v w : X) → get_elem? views seat ≡ some v → weigh f (set views seat w) + f v ≡ weigh f views + f w
weigh-set f [] seat v w at = absurd (some-ne-none v (sym at))
weigh-set f (x ∷ xs) zero v w at = let e = ap f (some-injective x v at) in omega (arith, e)
weigh-set f (x ∷ xs) (suc seat) v w at = let r = weigh-set f xs seat v w at in omega (arith, r)

-- one view's part of the total
part_of : {X : Type 0} (f : X → ℕ) (views : List X) (seat : ℕ) (v : X) → get_elem? views seat ≡ some v → f v ≤ weigh f views
part_of f [] seat v at = absurd (some-ne-none v (sym at))
part_of f (x ∷ xs) zero v at = let e = ap f (some-injective x v at) in omega (arith, e)
part_of f (x ∷ xs) (suc seat) v at = let r = part_of f xs seat v at in omega (arith, r)

abbrev Table : Type 0
Table = State (Unit {0}) Holding

abbrev holds : ℕ → Table → Type 0
holds n s = Balances n s.views

abbrev parts : Holding → ℕ
parts v = v.parts

idle_set : (views : List Holding) (seat : ℕ) (w : Holding) → IsIdle w → AreIdle views → AreIdle (set views seat w)
idle_set views seat w mine idle j u e zeros =
    ⊎_elim
    (λ (x : (j ≡ seat) × (w ≡ u)). subst (λ (y : Holding). (y.made ≡ []) × (y.paid ≡ [])) x.1 (mine (ap parts x.1 ∙ zeros)))
    (λ (x : (j ≢ seat) × (get_elem? views j ≡ some u)). idle j u x.1 zeros)
    (at_set views seat j w u e)

idle_snoc : (views : List Holding) (w : Holding) → IsIdle w → AreIdle views → AreIdle (views ++ w ∷ [])
idle_snoc views w mine idle j u e zeros =
    ⊎_elim
    (λ (x : get_elem? views j ≡ some u). idle j u x zeros)
    (λ (x : w ≡ u). subst (λ (y : Holding). (y.made ≡ []) × (y.paid ≡ [])) x (mine (ap parts x ∙ zeros)))
    (at_snoc views w u j e)

idle_nothing : IsIdle nothing
idle_nothing zeros = (refl, refl)

pub begins : (n : ℕ) → Balances n (holding n [] [] [] ∷ [])
begins n = (omega arith, (λ h. refl), one)
  where
    one : AreIdle (holding n [] [] [] ∷ [])
    one zero v e zeros = subst (λ (y : Holding). (y.made ≡ []) × (y.paid ≡ [])) (some-injective _ _ e) (refl, refl)
    one (suc j) v e zeros = absurd (some-ne-none v (sym e))

-- a view is cut in two, and so many children more were made that are owed
splits : (n id : ℕ) (v left right : Holding) (d : (Child → ℕ) → ℕ) → left.parts + right.parts ≡ v.parts
    → ((h : Child → ℕ) → weigh h left.made + weigh h right.made ≡ weigh h v.made + d h)
    → ((h : Child → ℕ) → weigh h left.paid + weigh h right.paid ≡ weigh h v.paid)
    → ((h : Child → ℕ) → weigh h left.owes + weigh h right.owes ≡ weigh h v.owes + d h)
    → IsIdle left → IsIdle right → Splits (holds n) id v left right
splits n id v left right d parts_are made_are paid_are owes_are idle_left idle_right s b at =
    let views = s.views in
    let vs : List Holding = set views id left in
    let x = weigh-set parts views id v left at in
    let a = weigh-append parts vs (right ∷ []) in
    let p = b.0 in (
      omega (arith, x, a, parts_are, p),
      (λ h.
          let made = λ (u : Holding). weigh h u.made in
          let paid = λ (u : Holding). weigh h u.paid in
          let owes = λ (u : Holding). weigh h u.owes in
          let xm = weigh-set made views id v left at in
          let am = weigh-append made vs (right ∷ []) in
          let em = made_are h in
          let xp = weigh-set paid views id v left at in
          let ap' = weigh-append paid vs (right ∷ []) in
          let ep = paid_are h in
          let xo = weigh-set owes views id v left at in
          let ao = weigh-append owes vs (right ∷ []) in
          let eo = owes_are h in
          let p = b.1 h in
          omega (arith, xm, am, em, xp, ap', ep, xo, ao, eo, p)),
      idle_snoc vs right idle_right (idle_set views id left idle_left b.2),
    )

-- two views are made one, and so much that was owed is paid
joins : (n id other : ℕ) (v u both : Holding) (d : (Child → ℕ) → ℕ) → both.parts ≡ v.parts + u.parts
    → ((h : Child → ℕ) → weigh h both.made ≡ weigh h v.made + weigh h u.made)
    → ((h : Child → ℕ) → weigh h both.paid ≡ weigh h v.paid + weigh h u.paid + d h)
    → ((h : Child → ℕ) → weigh h both.owes + d h ≡ weigh h v.owes + weigh h u.owes)
    → (IsIdle v → IsIdle u → IsIdle both) → Joins (holds n) id v other u both nothing
joins n id other v u both d parts_are made_are paid_are owes_are idle_both s b at apart there =
    let views = s.views in
    let vs : List Holding = set views id both in
    let is_there : get_elem? views other ≡ some u =
    ⊎_elim (λ (t : (other ≡ id) × (both ≡ u)). absurd (apart t.0)) (λ (t : (other ≢ id) × (get_elem? views other ≡ some u)). t.1) (at_set views id other both u there) in
    let x = weigh-set parts views id v both at in
    let y = weigh-set parts vs other u nothing there in
    let p = b.0 in (
      omega (arith, x, y, parts_are, p),
      (λ h.
          let made = λ (w : Holding). weigh h w.made in
          let paid = λ (w : Holding). weigh h w.paid in
          let owes = λ (w : Holding). weigh h w.owes in
          let xm = weigh-set made views id v both at in
          let ym = weigh-set made vs other u nothing there in
          let em = made_are h in
          let xp = weigh-set paid views id v both at in
          let yp = weigh-set paid vs other u nothing there in
          let ep = paid_are h in
          let xo = weigh-set owes views id v both at in
          let yo = weigh-set owes vs other u nothing there in
          let eo = owes_are h in
          let p = b.1 h in
          omega (arith, xm, ym, em, xp, yp, ep, xo, yo, eo, p)),
      idle_set vs other nothing idle_nothing (idle_set views id both (idle_both (b.2 id v at) (b.2 other u is_there)) b.2),
    )

pub splits_one : (n id : ℕ) (v : Holding) → 1 < v.parts → Splits (holds n) id v (holding (v.parts - 1) v.made v.paid v.owes) (holding 1 [] [] [])
splits_one n id v more =
    splits n id v _ _ (λ _. 0) (omega (arith, more)) (λ h. omega arith) (λ h. omega arith) (λ h. omega arith) (λ zeros. absurd (omega (arith, zeros, more))) (λ zeros. absurd (omega (arith, zeros)))

pub makes : (n id : ℕ) (v : Holding) (child : Child) → 0 < v.parts
    → Splits (holds n) id v (holding v.parts (v.made ++ child ∷ []) v.paid v.owes) (holding 0 [] [] (child ∷ []))
makes n id v child some_part =
    splits n id v _ _ (λ h. h child) (omega arith) (λ h. let a = weigh-append h v.made (child ∷ []) in omega (arith, a)) (λ h. omega arith) (λ h. omega arith)
    (λ zeros. absurd (omega (arith, zeros, some_part))) (λ zeros. (refl, refl))

pub pays : (n id other : ℕ) (v : Holding) (owes : List Child) → 0 < v.parts
    → Joins (holds n) id v other (holding 0 [] [] owes) (holding v.parts v.made (v.paid ++ owes) v.owes) nothing
pays n id other v owes some_part =
    joins n id other v _ _ (λ h. weigh h owes) (omega arith) (λ h. omega arith) (λ h. let a = weigh-append h v.paid owes in omega (arith, a)) (λ h. omega arith)
    (λ _ _ zeros. absurd (omega (arith, zeros, some_part)))

pub joins_all : (n id other : ℕ) (v u : Holding)
    → Joins (holds n) id v other u (holding (v.parts + u.parts) (v.made ++ u.made) (v.paid ++ u.paid) (v.owes ++ u.owes)) nothing
joins_all n id other v u =
    joins n id other v u _ (λ _. 0) refl (λ h. weigh-append h v.made u.made)
    (λ h. let a = weigh-append h v.paid u.paid in omega (arith, a))
    (λ h. let a = weigh-append h v.owes u.owes in omega (arith, a))
    (λ mine theirs zeros.
    let a = mine (omega (arith, zeros)) in
    let c = theirs (omega (arith, zeros)) in
    ((λ i. a.0 i ++ c.0 i), (λ i. a.1 i ++ c.1 i)))

-- ---- what has all parts

-- where no view has a part, f is 0 of each
none_left : (f : Holding → ℕ) (views : List Holding) → weigh parts views ≡ 0 → ((seat : ℕ) (v : Holding) → get_elem? views seat ≡ some v → parts v ≡ 0 → f v ≡ 0) → weigh f views ≡ 0
none_left f [] zeros idle = refl
none_left f (x ∷ xs) zeros idle =
    let r = none_left f xs (omega (arith, zeros)) (λ seat v at. idle (suc seat) v at) in
    let e = idle 0 x refl (omega (arith, zeros)) in
    omega (arith, r, e)

-- where one view has all parts, f is 0 of each other
only : (f : Holding → ℕ) (views : List Holding) (seat : ℕ) (v : Holding) → get_elem? views seat ≡ some v → weigh parts views ≡ parts v → ((j : ℕ) (u : Holding) → get_elem? views j ≡ some u → parts u ≡ 0 → f u ≡ 0) → weigh f views ≡ f v
only f [] seat v at all idle = absurd (some-ne-none v (sym at))
only f (x ∷ xs) zero v at all idle =
    let e = some-injective x v at in
    let p = ap parts e in
    let q = ap f e in
    let r = none_left f xs (omega (arith, all, p)) (λ j u there. idle (suc j) u there) in
    omega (arith, q, r)
only f (x ∷ xs) (suc seat) v at all idle =
    let m = part_of parts xs seat v at in
    let zeros : parts x ≡ 0 = omega (arith, all, m) in
    let r = only f xs seat v at (omega (arith, all, zeros)) (λ j u there. idle (suc j) u there) in
    let e = idle 0 x refl zeros in
    omega (arith, r, e)

-- all who owe an exit
abbrev owed_by : List Holding → List Child
owed_by [] = []
owed_by (v ∷ vs) = v.owes ++ owed_by vs

weigh-owed : (h : Child → ℕ) (views : List Holding) → weigh h (owed_by views) ≡ weigh (λ v. weigh h v.owes) views
weigh-owed h [] = refl
weigh-owed h (v ∷ vs) = let a = weigh-append h v.owes (owed_by vs) in let r = weigh-owed h vs in omega (arith, a, r)

pub learns : (n slots id : ℕ) (v : Holding) → n ≤ v.parts → Allows (holds n) slots id (v, []) 0 (λ k. k) (Learns (step slots 0 0 0 none) (v, []))
learns n slots id v all s b homes at small =
    let views = s.views in
    let low = part_of parts views id v at in
    let total = b.0 in
    let every : weigh parts views ≡ parts v = omega (arith, all, low, total) in
    let only_made : (h : Child → ℕ) → weigh (λ u. weigh h u.made) views ≡ weigh h v.made = λ h. only (λ u. weigh h u.made) views id v at every (λ j u there zeros. ap (weigh h) (b.2 j u there zeros).0) in
    let only_paid : (h : Child → ℕ) → weigh (λ u. weigh h u.paid) views ≡ weigh h v.paid = λ h. only (λ u. weigh h u.paid) views id v at every (λ j u there zeros. ap (weigh h) (b.2 j u there zeros).1) in (
      v,
      keeps,
      tt,
      subst (Balances n) (sym (set_again views id v at)) b,
      (refl, (owed_by views, (λ h. let m = only_made h in let p = only_paid h in let o = weigh-owed h views in let e = b.1 h in omega (arith, m, p, o, e)))),
    )

pub bounds : (n slots id : ℕ) (v : Holding) → n ≡ 2 ^ 64 - 1 → Allows (holds n) slots id (v, []) 0 (λ k. k) (Bounds (step slots 0 0 0 none) (v, []))
bounds n slots id v is s b homes at small =
    let low = part_of parts s.views id v at in
    let total = b.0 in
    (v, keeps, tt, subst (Balances n) (sym (set_again s.views id v at)) b, (refl, omega (arith, low, total, is)))

-- ---- the same of a seat whose view is known

pub pays_as : (n id other : ℕ) (v u : Holding) (child : Child) → u ≡ holding 0 [] [] (child ∷ []) → 0 < v.parts
    → Joins (holds n) id v other u (holding v.parts v.made (v.paid ++ u.owes) v.owes) nothing
pays_as n id other v u child is some_part =
    subst (λ (x : Holding). Joins (holds n) id v other x (holding v.parts v.made (v.paid ++ x.owes) v.owes) nothing) (sym is) (pays n id other v (child ∷ []) some_part)

pub learns_as : (n slots id : ℕ) (me : Me (Unit {0}) Holding) → n ≤ me.0.parts → me.1 ≡ [] → Allows (holds n) slots id me 0 (λ k. k) (Learns (step slots 0 0 0 none) me)
learns_as n slots id (v, held) all nothing_held =
    subst (λ l. Allows (holds n) slots id (v, l) 0 (λ k. k) (Learns (step slots 0 0 0 none) (v, l))) (sym nothing_held) (learns n slots id v all)

pub bounds_as : (n slots id : ℕ) (me : Me (Unit {0}) Holding) → n ≡ 2 ^ 64 - 1 → me.1 ≡ [] → Allows (holds n) slots id me 0 (λ k. k) (Bounds (step slots 0 0 0 none) me)
bounds_as n slots id (v, held) is nothing_held =
    subst (λ l. Allows (holds n) slots id (v, l) 0 (λ k. k) (Bounds (step slots 0 0 0 none) (v, l))) (sym nothing_held) (bounds n slots id v is)

-- ---- what an account of all parts tells

pub settled : (account : Accounted) (v : Holding) (made paid : ℕ) → v.made ≡ account.made → v.paid ≡ account.paid
    → made ≡ capped (length v.made) → paid ≡ capped (length v.paid) → made < 2 ^ 64 - 1 → ((owes : List Child) × AddUp v.made v.paid owes)
    → (paid ≤ made) × IsSettled account made (made - paid)
settled account v made paid v_made v_paid made_is paid_is low owed =
    let owes = owed.0 in
    let e = owed.1 (λ _. 1) in
    let m = weigh-one v.made in
    let p = weigh-one v.paid in
    let o = weigh-one owes in
    let same_made = ap length v_made in
    let same_paid = ap length v_paid in (
      omega (arith, e, m, p, made_is, paid_is, low),
      record {
        owes = owes;
        made_is = omega (arith, made_is, low, same_made);
        owed_is = omega (arith, e, m, p, o, made_is, paid_is, low, same_made, same_paid);
        adds_up = subst (λ (x : List Child × List Child). AddUp x.0 x.1 owes) (λ i. (v_made i, v_paid i)) owed.1;
      },
    )
