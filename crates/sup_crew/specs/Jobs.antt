-- What was queued is what was taken and what the queue holds, however the children are weighed.
use Rattle.std.specs.Prelude.{◌≡◌, ℕ, ◌+◌, List, [], ◌∷◌}
use mathlib.Core.Option.{some}
use lib.ListN.{get_elem?}
use Rattle.sup_desk.specs.declared.name.Name.{Ghosts}
use Rattle.sup_crew.specs.declared.job.Job.{Job}
use Rattle.sup_crew.specs.declared.job.Child.{Child}
use Rattle.sup_crew.specs.declared.queue.Permission.{Permission}

abbrev pub permission : ℕ → List Child → List Child → Permission
permission parts put taken = record { parts = parts; put = put; taken = taken }

-- the weights of the children, added up
abbrev pub weigh : (Child → ℕ) → List Child → ℕ
weigh h [] = 0
weigh h (x ∷ xs) = h x + weigh h xs

-- f of each permission, added up
abbrev pub total : (Permission → ℕ) → List Permission → ℕ
total f [] = 0
total f (v ∷ vs) = f v + total f vs

-- a permission with no part queued and took nothing
abbrev pub IdleIsEmpty : List Permission → Type 0
IdleIsEmpty views = (port : ℕ) (v : Permission) → get_elem? views port ≡ some v → v.parts ≡ 0 → (v.put ≡ []) × (v.taken ≡ [])

module _ {N : Type 0} {G : Ghosts N} where
  -- the child of the job
  abbrev pub child_of : Job N G → Child
  child_of job = record { number = job.number; arg = job.arg }

  abbrev pub children_of : List (Job N G) → List Child
  children_of [] = []
  children_of (j ∷ js) = child_of j ∷ children_of js

  abbrev pub Balanced : List (Job N G) → List Permission → Type 0
  Balanced items views =
      (total (λ v. v.parts) views ≡ 1024)
      × ((h : Child → ℕ) → total (λ v. weigh h v.put) views ≡ total (λ v. weigh h v.taken) views + weigh h (children_of items))
      × IdleIsEmpty views
