-- One job more of a worker.
use Rattle.std.proofs.Common.{◌≡◌, ℕ, suc, ◌+◌, List, [], ◌∷◌, ◌++◌, length, Some, ap, ◌∙◌, subst, arith}
use Rattle.sup_inbox.specs.declared.note.Note.{Note}
use Rattle.sup_types.specs.declared.reason.Reason.{Reason}
use Rattle.sup_types.specs.declared.text.Text.{Text}
use Rattle.sup_crew.specs.declared.job.Child.{Child}
use Rattle.sup_crew.specs.Jobs.{weigh}
use Rattle.std.specs.Global.{Global}
use Rattle.atomic_table.specs.Seated.{TableId}
use Rattle.crossbeam_queue.specs.SegTies.{SegId}
use Rattle.sup_crew.specs.declared.worker.Finished.{Finished}
use Rattle.sup_crew.specs.Work.{IsWorked, AreWorked, ended_of, ended, untold}
use Rattle.sup_crew.specs.JobLaws.{weigh-append}
use Rattle.sup_crew.specs.WorkLaws.{ended-append}

-- the account, with the job that was taken
pub account-posted : (taken taken' : List Child) (posted posted' : List Note) (child : Child) (note : Note) → taken' ≡ taken ++ child ∷ [] → posted' ≡ posted ++ note ∷ [] → child ≡ ended_of note
    → ((h : Child → ℕ) → weigh h taken ≡ weigh h (ended posted)) → (h : Child → ℕ) → weigh h taken' ≡ weigh h (ended posted')
account-posted taken taken' posted posted' child note t p same account h =
    let a = ap (weigh h) t ∙ weigh-append h taken (child ∷ []) in
    let b = ap (λ l. weigh h (ended l)) p ∙ ap (weigh h) (ended-append posted (note ∷ [])) ∙ weigh-append h (ended posted) (ended_of note ∷ []) in
    let c = account h in
    let d = ap h same in
    omega (arith, a, b, c, d)

-- the account, where it is handed back
pub account-back : (taken taken' : List Child) (posted posted' : List Note) (child : Child) (back : Note) → taken' ≡ taken ++ child ∷ [] → posted' ≡ posted → child ≡ ended_of back
    → ((h : Child → ℕ) → weigh h taken ≡ weigh h (ended posted)) → (h : Child → ℕ) → weigh h taken' ≡ weigh h (ended posted') + weigh h (untold (Some back))
account-back taken taken' posted posted' child back t p same account h =
    let a = ap (weigh h) t ∙ weigh-append h taken (child ∷ []) in
    let b = ap (λ l. weigh h (ended l)) p in
    let c = account h in
    let d = ap h same in
    omega (arith, a, b, c, d)

module _ {N : Type 0} where
  pub are_worked-snoc : (may_end : ℕ → Text → Reason → Type 0) (queue : SegId Global) (inbox : TableId) (first : ℕ) (rs : List (Finished N)) (r : Finished N) → AreWorked may_end queue inbox first rs → IsWorked may_end queue inbox (first + length rs) r → AreWorked may_end queue inbox first (rs ++ r ∷ [])
  are_worked-snoc may_end queue inbox first [] r all one = (subst (λ n. IsWorked may_end queue inbox n r) (omega arith) one, tt)
  are_worked-snoc may_end queue inbox first (x ∷ xs) r all one = (all.0, are_worked-snoc may_end queue inbox (suc first) xs r all.1 (subst (λ n. IsWorked may_end queue inbox n r) (omega arith) one))

  pub worked-moved : (m m' : ℕ → Text → Reason → Type 0) (q q' : SegId Global) (i i' : TableId) (n n' : ℕ) (r : Finished N) → m ≡ m' → q ≡ q' → i ≡ i' → n ≡ n' → IsWorked m q i n r → IsWorked m' q' i' n' r
  worked-moved m m' q q' i i' n n' r em eq ei en w = subst (λ (x : Type 0). x) (λ k. IsWorked (em k) (eq k) (ei k) (en k) r) w
