-- What a call at the queue leaves of an endpoint.
use Rattle.std.proofs.Common.{◌≡◌, ℕ, ◌+◌, ◌≤◌, [], ◌∷◌, ◌++◌, length, Option, Some, None, ap, sym, ◌∙◌, arith}
use Rattle.std.specs.Prelude.{MatchOption, IfNone, IfSome}
use Rattle.std.specs.Global.{Global}
use Rattle.crossbeam_queue.specs.SegTies.{SegId}
use Rattle.sup_desk.specs.declared.name.Name.{Ghosts}
use Rattle.sup_crew.specs.declared.job.Job.{Job}
use Rattle.sup_crew.specs.declared.job.Child.{Child}
use Rattle.sup_crew.specs.Jobs.{permission, weigh, child_of}
use Rattle.sup_crew.specs.Endpoints.{EndpointModel}

module _ {N : Type 0} {G : Ghosts N} where
  -- a job was taken, or none
  pub taken : (job : Option (Job N G)) (queue : SegId Global) (inside old new : EndpointModel) (P : Type 0) (B Q : Job N G → Type 0) → inside ≡ old → old.queue ≡ queue → new.queue ≡ queue
      → MatchOption job ((new.permission ≡ inside.permission) × P) (λ x. ((new.permission ≡ permission inside.permission.parts inside.permission.put (inside.permission.taken ++ child_of x ∷ [])) × B x) × Q x)
      → MatchOption job (new ≡ old) (λ x. new ≡ record { queue = queue; permission = permission old.permission.parts old.permission.put (old.permission.taken ++ child_of x ∷ []) })
  taken None queue inside old new P B Q is before after h = λ i. record { queue = (after ∙ sym before) i; permission = (h.0 ∙ ap (λ v. v.permission) is) i }
  taken (Some x) queue inside old new P B Q is before after h = λ i. record { queue = after i; permission = (h.0.0 ∙ ap (λ v. permission v.permission.parts v.permission.put (v.permission.taken ++ child_of x ∷ [])) is) i }

  -- who has every part took no more than was queued
  pub few : (job : Option (Job N G)) (inside old new : EndpointModel) (P : Type 0) (A Q : Job N G → Type 0) → inside ≡ old
      → MatchOption job P (λ x. (A x × (inside.permission.parts ≡ 1024 → length new.permission.taken ≤ length new.permission.put)) × Q x)
      → old.permission.parts ≡ 1024 → IfSome job (λ _. length new.permission.taken ≤ length new.permission.put)
  few None inside old new P A Q is h all = tt
  few (Some x) inside old new P A Q is h all = h.0.1 (ap (λ v. v.permission.parts) is ∙ all)

  -- and where it finds none, all that was queued was taken
  pub every : (job : Option (Job N G)) (inside old : EndpointModel) (A : Type 0) (Q : Job N G → Type 0) → inside ≡ old
      → MatchOption job (A × (inside.permission.parts ≡ 1024 → (h : Child → ℕ) → weigh h inside.permission.put ≡ weigh h inside.permission.taken + 0)) Q
      → old.permission.parts ≡ 1024 → IfNone job ((h : Child → ℕ) → weigh h old.permission.put ≡ weigh h old.permission.taken)
  every None inside old A Q is m all = λ h.
      let e = m.1 (ap (λ v. v.permission.parts) is ∙ all) h in
      let p = ap (λ v. weigh h v.permission.put) is in
      let t = ap (λ v. weigh h v.permission.taken) is in
      omega (arith, e, p, t)
  every (Some x) inside old A Q is m all = tt
