-- Each step keeps the rule of the queue of jobs.
use Rattle.std.proofs.Common.{◌≡◌, ◌≢◌, ℕ, zero, suc, ◌+◌, ◌-◌, ◌<◌, ◌≤◌, List, [], ◌∷◌, ◌++◌, length, set, refl, sym, ap, ◌∙◌, subst, ⊎_elim, arith, length-append}
use mathlib.Core.Option.{some, some-ne-none, some-injective}
use lib.ListN.{get_elem?}
use Rattle.crossbeam_queue.specs.Fifo.{Pushes, Pops, Forks, Merges, Learns}
use Rattle.crossbeam_queue.proofs.Lists.{at_set, at_snoc}
use Rattle.sup_desk.specs.declared.name.Name.{Ghosts}
use Rattle.sup_crew.specs.declared.job.Job.{Job}
use Rattle.sup_crew.specs.declared.job.Child.{Child}
use Rattle.sup_crew.specs.declared.queue.Permission.{Permission}
use Rattle.sup_crew.specs.Jobs.{permission, weigh, total, IdleIsEmpty, child_of, children_of, Balanced}
use Rattle.sup_crew.specs.JobLaws.{weigh-append, weigh-one, weigh-job}

total-append : (f : Permission → ℕ) (vs ws : List Permission) → total f (vs ++ ws) ≡ total f vs + total f ws
total-append f [] ws = omega arith
total-append f (v ∷ vs) ws = let r = total-append f vs ws in omega (arith, r)

-- the total after a change of one share
total-set : (f : Permission → ℕ) (views : List Permission) (port : ℕ) (v w : Permission) → get_elem? views port ≡ some v → total f (set views port w) + f v ≡ total f views + f w
total-set f [] port v w at = absurd (some-ne-none v (sym at))
total-set f (x ∷ xs) zero v w at = let e = ap f (some-injective x v at) in omega (arith, e)
total-set f (x ∷ xs) (suc port) v w at = let r = total-set f xs port v w at in omega (arith, r)

some_part : (f : Permission → ℕ) (views : List Permission) (port : ℕ) (v : Permission) → get_elem? views port ≡ some v → f v ≤ total f views
some_part f [] port v at = absurd (some-ne-none v (sym at))
some_part f (x ∷ xs) zero v at = let e = ap f (some-injective x v at) in omega (arith, e)
some_part f (x ∷ xs) (suc port) v at = let r = some_part f xs port v at in omega (arith, r)

abbrev parts : Permission → ℕ
parts v = v.parts

idle_set : (views : List Permission) (port : ℕ) (w : Permission) → (w.parts ≡ 0 → (w.put ≡ []) × (w.taken ≡ [])) → IdleIsEmpty views → IdleIsEmpty (set views port w)
idle_set views port w mine idle j u e none =
    ⊎_elim
    (λ (x : (j ≡ port) × (w ≡ u)). subst (λ (y : Permission). (y.put ≡ []) × (y.taken ≡ [])) x.1 (mine (ap parts x.1 ∙ none)))
    (λ (x : (j ≢ port) × (get_elem? views j ≡ some u)). idle j u x.1 none)
    (at_set views port j w u e)

idle_snoc : (views : List Permission) (w : Permission) → (w.parts ≡ 0 → (w.put ≡ []) × (w.taken ≡ [])) → IdleIsEmpty views → IdleIsEmpty (views ++ w ∷ [])
idle_snoc views w mine idle j u e none =
    ⊎_elim
    (λ (x : get_elem? views j ≡ some u). idle j u x none)
    (λ (x : w ≡ u). subst (λ (y : Permission). (y.put ≡ []) × (y.taken ≡ [])) x (mine (ap parts x ∙ none)))
    (at_snoc views w u j e)

-- where no share has a part, f is 0 of each
none_left : (f : Permission → ℕ) (views : List Permission) → total parts views ≡ 0 → ((port : ℕ) (v : Permission) → get_elem? views port ≡ some v → v.parts ≡ 0 → f v ≡ 0) → total f views ≡ 0
none_left f [] none idle = refl
none_left f (x ∷ xs) none idle =
    let r = none_left f xs (omega (arith, none)) (λ port v at. idle (suc port) v at) in
    let e = idle 0 x refl (omega (arith, none)) in
    omega (arith, r, e)

-- where one share has every part, f is 0 of each other
only : (f : Permission → ℕ) (views : List Permission) (port : ℕ) (v : Permission) → get_elem? views port ≡ some v → total parts views ≡ v.parts → ((j : ℕ) (u : Permission) → get_elem? views j ≡ some u → u.parts ≡ 0 → f u ≡ 0) → total f views ≡ f v
only f [] port v at all idle = absurd (some-ne-none v (sym at))
only f (x ∷ xs) zero v at all idle =
    let e = some-injective x v at in
    let p = ap parts e in
    let q = ap f e in
    let r = none_left f xs (omega (arith, all, p)) (λ j u there. idle (suc j) u there) in
    omega (arith, q, r)
only f (x ∷ xs) (suc port) v at all idle =
    let m = some_part parts xs port v at in
    let none : x.parts ≡ 0 = omega (arith, all, m) in
    let r = only f xs port v at (omega (arith, all, none)) (λ j u there. idle (suc j) u there) in
    let e = idle 0 x refl none in
    omega (arith, r, e)

module _ {N : Type 0} {G : Ghosts N} where
  pub puts : (n port : ℕ) (v : Permission) (x : Job N G) → 0 < v.parts → Pushes (Balanced {N = N} {G = G}) n port v x (λ w. w ≡ permission v.parts (v.put ++ child_of x ∷ []) v.taken)
  puts n port v x some_part items views room b at =
      let w = permission v.parts (v.put ++ child_of x ∷ []) v.taken in (
        w,
        (
          (let s = total-set parts views port v w at in let p = b.0 in omega (arith, s, p)),
          (λ h.
              let s = total-set (λ u. weigh h u.put) views port v w at in
              let t = total-set (λ u. weigh h u.taken) views port v w at in
              let p = b.1 h in
              let a = weigh-append h v.put (child_of x ∷ []) in
              let c = weigh-job h items x in
              omega (arith, s, t, p, a, c)),
          idle_set views port w (λ none. absurd (omega (arith, none))) b.2,
        ),
        refl,
      )

  moves : (port : ℕ) (v : Permission) → 0 < v.parts → Pops (Balanced {N = N} {G = G}) port v (λ x w. w ≡ permission v.parts v.put (v.taken ++ child_of x ∷ []))
  moves port v some_part x items views b at =
      let w = permission v.parts v.put (v.taken ++ child_of x ∷ []) in (
        w,
        (
          (let s = total-set parts views port v w at in let p = b.0 in omega (arith, s, p)),
          (λ h.
              let s = total-set (λ u. weigh h u.put) views port v w at in
              let t = total-set (λ u. weigh h u.taken) views port v w at in
              let p = b.1 h in
              let a = weigh-append h v.taken (child_of x ∷ []) in
              omega (arith, s, t, p, a)),
          idle_set views port w (λ none. absurd (omega (arith, none))) b.2,
        ),
        refl,
      )

  pub gives : (port : ℕ) (v : Permission) → 1 < v.parts → Forks (Balanced {N = N} {G = G}) port v (permission (v.parts - 1) v.put v.taken) (permission 1 [] [])
  gives port v more items views b at =
      let w = permission (v.parts - 1) v.put v.taken in
      let u = permission 1 [] [] in
      let vs = set views port w in (
        (let s = total-set parts views port v w at in let p = b.0 in let a = total-append parts vs (u ∷ []) in omega (arith, s, p, a)),
        (λ h.
            let s = total-set (λ u. weigh h u.put) views port v w at in
            let t = total-set (λ u. weigh h u.taken) views port v w at in
            let a = total-append (λ u. weigh h u.put) vs (u ∷ []) in
            let c = total-append (λ u. weigh h u.taken) vs (u ∷ []) in
            let p = b.1 h in
            omega (arith, s, t, p, a, c)),
        idle_snoc vs u (λ none. absurd (omega (arith, none))) (idle_set views port w (λ none. absurd (omega (arith, none))) b.2),
      )

  pub joins : (port : ℕ) (v : Permission) (other : ℕ) (u : Permission) → 0 < v.parts → Merges (Balanced {N = N} {G = G}) port v other u (permission (v.parts + u.parts) (v.put ++ u.put) (v.taken ++ u.taken)) (permission 0 [] [])
  joins port v other u some_part items views b at apart there =
      let w = permission (v.parts + u.parts) (v.put ++ u.put) (v.taken ++ u.taken) in
      let z = permission 0 [] [] in
      let vs = set views port w in (
        (let s = total-set parts views port v w at in let t = total-set parts vs other u z there in let p = b.0 in omega (arith, s, t, p)),
        (λ h.
            let s = total-set (λ u. weigh h u.put) views port v w at in
            let t = total-set (λ u. weigh h u.taken) views port v w at in
            let s' = total-set (λ u. weigh h u.put) vs other u z there in
            let t' = total-set (λ u. weigh h u.taken) vs other u z there in
            let a = weigh-append h v.put u.put in
            let c = weigh-append h v.taken u.taken in
            let p = b.1 h in
            omega (arith, s, t, s', t', p, a, c)),
        idle_set vs other z (λ _. (refl, refl)) (idle_set views port w (λ none. absurd (omega (arith, none))) b.2),
      )

  -- who has every part knows all that the queue holds
  pub learns : (port : ℕ) (v : Permission) → Learns (Balanced {N = N} {G = G}) port v (λ items. v.parts ≡ 1024 → (h : Child → ℕ) → weigh h v.put ≡ weigh h v.taken + weigh h (children_of items))
  learns port v items views b at all h =
      let every = b.0 ∙ sym all in
      let p = only (λ u. weigh h u.put) views port v at every (λ j u there none. ap (weigh h) (b.2 j u there none).0) in
      let t = only (λ u. weigh h u.taken) views port v at every (λ j u there none. ap (weigh h) (b.2 j u there none).1) in
      let e = b.1 h in
      omega (arith, p, t, e)

  pub takes : (port : ℕ) (v : Permission) → 0 < v.parts → Pops (Balanced {N = N} {G = G}) port v (λ x w. (w ≡ permission v.parts v.put (v.taken ++ child_of x ∷ [])) × (v.parts ≡ 1024 → length w.taken ≤ length w.put))
  takes port v some_part x items views b at =
      let step = moves port v some_part x items views b at in
      let few : v.parts ≡ 1024 → length step.0.taken ≤ length step.0.put = λ all.
      let e = learns port v (x ∷ items) views b at all (λ _. 1) in
      let p = weigh-one v.put in
      let t = weigh-one v.taken in
      let l = length-append v.taken (child_of x ∷ []) in
      let a = ap (λ (w : Permission). length w.taken) step.2 in
      let c = ap (λ (w : Permission). length w.put) step.2 in
      omega (arith, e, p, t, l, a, c)
      in
      (step.0, step.1, (step.2, few))
