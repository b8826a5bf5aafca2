-- The weight of children that come one after the other.
use Rattle.std.proofs.Common.{◌≡◌, ℕ, ◌+◌, List, [], ◌∷◌, ◌++◌, length, refl, ap, arith}
use Rattle.sup_desk.specs.declared.name.Name.{Ghosts}
use Rattle.sup_crew.specs.declared.job.Job.{Job}
use Rattle.sup_crew.specs.declared.job.Child.{Child}
use Rattle.sup_crew.specs.Jobs.{weigh, child_of, children_of}

pub weigh-append : (h : Child → ℕ) (xs ys : List Child) → weigh h (xs ++ ys) ≡ weigh h xs + weigh h ys
weigh-append h [] ys = omega arith
weigh-append h (x ∷ xs) ys = let r = weigh-append h xs ys in omega (arith, r)

pub weigh-one : (xs : List Child) → weigh (λ _. 1) xs ≡ length xs
weigh-one [] = refl
weigh-one (x ∷ xs) = let r = weigh-one xs in omega (arith, r)

module _ {N : Type 0} {G : Ghosts N} where
  pub children_of-append : (xs ys : List (Job N G)) → children_of (xs ++ ys) ≡ children_of xs ++ children_of ys
  children_of-append [] ys = refl
  children_of-append (x ∷ xs) ys = ap (λ l. child_of x ∷ l) (children_of-append xs ys)

  pub weigh-job : (h : Child → ℕ) (xs : List (Job N G)) (x : Job N G) → weigh h (children_of (xs ++ x ∷ [])) ≡ weigh h (children_of xs) + h (child_of x)
  weigh-job h [] x = omega arith
  weigh-job h (y ∷ xs) x = let r = weigh-job h xs x in omega (arith, r)
