-- Where the jobs for the children that were made are those that ended and others, each job has its child's argument.
use Rattle.std.proofs.Common.{◌≡◌, ℕ, zero, suc, ◌+◌, ◌<◌, ◌≤◌, Bool, true, false, cond, List, [], ◌∷◌, ◌++◌, refl, ap, sym, ◌∙◌, arith, eq-eqb}
use Rattle.std.specs.Prelude.{◌==◌, nat_lt, ◌&&◌}
use Rattle.std.proofs.lemmas.Bool.{lt-ltb, le-ltb, eqb-true}
use native.Mathlib.Decide.{dec_le}
use mathlib.Core.Logic.{dite}
use Rattle.sup_types.specs.declared.history.Operation.{Operation}
use Rattle.sup_types.specs.declared.history.Operation.TheVariants.{Start, Exit, Retry, Terminate, Stop}
use Rattle.sup_types.specs.declared.history.Reply.{Reply}
use Rattle.sup_types.specs.declared.history.Reply.TheVariants.{Started, Restarted}
use Rattle.sup_core.specs.Account.{Item, argument_of}
use Rattle.sup_inbox.specs.declared.note.Note.{Note}
use Rattle.sup_crew.specs.declared.job.Child.{Child}
use Rattle.sup_crew.specs.Jobs.{weigh}
use Rattle.sup_crew.specs.Work.{ended, ended_of}
use Rattle.sup_crew.specs.Calls.{Call, child_made, children_made, exits_in, job_made, notes_after, jobs_made, IsDriven, AreDriven}
use Rattle.sup_crew.specs.Exits.{exit_of, exits}
use Rattle.sup_crew.specs.JobLaws.{weigh-append}
use Rattle.sup_crew.proofs.Right.{Names, IsRight, AreRightCalls}

-- whether two texts are the same
abbrev same : List ℕ → List ℕ → Bool
same [] [] = true
same [] (y ∷ ys) = false
same (x ∷ xs) [] = false
same (x ∷ xs) (y ∷ ys) = (x == y) && same xs ys

same-is : (xs ys : List ℕ) → xs ≡ ys → same xs ys ≡ true
same-is xs ys e = ap (same xs) (sym e) ∙ own xs
  where
    own : (l : List ℕ) → same l l ≡ true
    own [] = refl
    own (x ∷ l) = λ i. eq-eqb x x refl i && own l i

is-same : (xs ys : List ℕ) → same xs ys ≡ true → xs ≡ ys
is-same [] [] e = refl
is-same [] (y ∷ ys) e = absurd (cc e)
is-same (x ∷ xs) [] e = absurd (cc e)
is-same (x ∷ xs) (y ∷ ys) e = let p = parts (x == y) (same xs ys) e in λ i. eqb-true x y p.0 i ∷ is-same xs ys p.1 i
  where
    parts : (a b : Bool) → (a && b) ≡ true → (a ≡ true) × (b ≡ true)
    parts true b h = (refl, h)
    parts false b h = absurd (cc h)

abbrev flag : Bool → ℕ
flag true = 0
flag false = 1

set-flag : (b : Bool) → flag b ≡ 0 → b ≡ true
set-flag true e = refl
set-flag false e = absurd (omega (arith, e))

both-same : (b : Bool) (x : ℕ) → cond b x x ≡ x
both-same true x = refl
both-same false x = refl

-- a child below m whose argument is not the account's
abbrev pub bad : List Item → ℕ → Child → ℕ
bad items m c = cond (nat_lt c.number m) (flag (same c.arg (argument_of items c.number))) 0

pub bad-right : (items : List Item) (m : ℕ) (c : Child) → c.arg ≡ argument_of items c.number → bad items m c ≡ 0
bad-right items m c e = ap (λ b. cond (nat_lt c.number m) (flag b) 0) (same-is c.arg (argument_of items c.number) e) ∙ both-same (nat_lt c.number m) 0

bad-past : (items : List Item) (m : ℕ) (c : Child) → m ≤ c.number → bad items m c ≡ 0
bad-past items m c h = ap (λ b. cond b (flag (same c.arg (argument_of items c.number))) 0) (le-ltb c.number m h)

pub right-of : (items : List Item) (m : ℕ) (c : Child) → c.number < m → bad items m c ≡ 0 → c.arg ≡ argument_of items c.number
right-of items m c h e =
    is-same c.arg (argument_of items c.number)
    (set-flag (same c.arg (argument_of items c.number)) (sym (ap (λ b. cond b (flag (same c.arg (argument_of items c.number))) 0) (lt-ltb c.number m h)) ∙ e))

none-below : (items : List Item) (cs : List Child) → weigh (bad items 0) cs ≡ 0
none-below items [] = refl
none-below items (c ∷ cs) = let a = bad-past items 0 c (omega arith) in let b = none-below items cs in omega (arith, a, b)

-- an exit is that of the first note
abbrev pub IsTold : Operation → List Note → Type 0
IsTold (Exit number reason) [] = ⊥
IsTold (Exit number reason) (note ∷ notes) = number ≡ note.number
IsTold _ notes = Unit {0}

pub told-parts : (operation : Operation) (rest : List Operation) (notes : List Note) → exit_of operation ++ rest ≡ exits notes → IsTold operation notes × (rest ≡ exits (notes_after operation notes))
told-parts (Exit number reason) rest [] e = absurd (cc e)
told-parts (Exit number reason) rest (note ∷ notes) e = (cc e, cc e)
told-parts (Start arg) rest notes e = (tt, e)
told-parts (Retry number) rest notes e = (tt, e)
told-parts (Terminate number) rest notes e = (tt, e)
told-parts Stop rest notes e = (tt, e)

none-after : (h : Child → ℕ) (operation : Operation) (notes : List Note) → weigh h (ended notes) ≡ 0 → weigh h (ended (notes_after operation notes)) ≡ 0
none-after h (Exit number reason) [] z = z
none-after h (Exit number reason) (note ∷ notes) z = omega (arith, z)
none-after h (Start arg) notes z = z
none-after h (Retry number) notes z = z
none-after h (Terminate number) notes z = z
none-after h Stop notes z = z

-- the job below m + 1 is right where the notes below m are
job-right : (items : List Item) (m : ℕ) (operation : Operation) (reply : Reply) (notes : List Note) → IsRight items operation reply → Names operation reply → IsTold operation notes → weigh (bad items m) (ended notes) ≡ 0
    → weigh (bad items (suc m)) (job_made operation reply notes) ≡ 0
job-right items m (Start arg) (Started number) notes h names told z = let a = bad-right items (suc m) (record { number = number; arg = arg }) (sym h.0) in omega (arith, a)
job-right items m (Exit ended reason) (Restarted old number) (note ∷ notes) h names told z =
    let made : Child = record { number = number; arg = note.arg } in
    let low = h.1 in
    let first : bad items m (ended_of note) ≡ 0 = omega (arith, z) in
    let is : note.number ≡ old = sym told ∙ names in
    let none : bad items (suc m) made ≡ 0 =
    dite (dec_le (suc m) number)
    (λ past. bad-past items (suc m) made past)
    (λ below. bad-right items (suc m) made (right-of items m (ended_of note) (omega (arith, is, low, below)) first ∙ ap (argument_of items) is ∙ sym h.0)) in
    omega (arith, none)
job-right items m (Exit ended reason) (Restarted old number) [] h names told z = refl
job-right items m _ _ _ h names told z = refl

next-right : (items : List Item) (m : ℕ) (cs : List Call) (notes : List Note) → AreRightCalls items cs → exits_in cs ≡ exits notes → weigh (bad items m) (ended notes) ≡ 0 → weigh (bad items (suc m)) (jobs_made cs notes) ≡ 0
next-right items m [] notes right told z = refl
next-right items m (c ∷ cs) notes right told z =
    let parts = told-parts c.operation (exits_in cs) notes told in
    let a = job-right items m c.operation c.reply notes right.0 right.1 parts.0 z in
    let b = next-right items m cs (notes_after c.operation notes) right.2 parts.1 (none-after (bad items m) c.operation notes z) in
    let w = weigh-append (bad items (suc m)) (job_made c.operation c.reply notes) (jobs_made cs (notes_after c.operation notes)) in
    omega (arith, a, b, w)

job-same : (items : List Item) (operation : Operation) (reply : Reply) (notes : List Note) → IsRight items operation reply → Names operation reply → IsDriven operation → IsTold operation notes → ((m : ℕ) → weigh (bad items m) (ended notes) ≡ 0)
    → job_made operation reply notes ≡ child_made items reply
job-same items (Start arg) (Started number) notes h names driven told z = λ i. record { number = number; arg = sym h.0 i } ∷ []
job-same items (Start arg) (Restarted old number) notes h names driven told z = absurd names
job-same items (Start arg) _ notes h names driven told z = refl
job-same items (Exit ended reason) (Started number) notes h names driven told z = absurd names
job-same items (Exit ended reason) (Restarted old number) [] h names driven told z = absurd told
job-same items (Exit ended reason) (Restarted old number) (note ∷ notes) h names driven told z =
    let all = z (suc old) in
    let first : bad items (suc old) (ended_of note) ≡ 0 = omega (arith, all) in
    let is : note.number ≡ old = sym told ∙ names in
    let arg = right-of items (suc old) (ended_of note) (omega (arith, is)) first ∙ ap (argument_of items) is ∙ sym h.0 in
    λ i. record { number = number; arg = arg i } ∷ []
job-same items (Exit ended reason) _ notes h names driven told z = refl
job-same items (Retry number) reply notes h names driven told z = absurd driven
job-same items (Terminate number) reply notes h names driven told z = absurd driven
job-same items Stop reply notes h names driven told z = absurd driven

all-same : (items : List Item) (cs : List Call) (notes : List Note) → AreRightCalls items cs → AreDriven cs → exits_in cs ≡ exits notes → ((m : ℕ) → weigh (bad items m) (ended notes) ≡ 0) → jobs_made cs notes ≡ children_made items cs
all-same items [] notes right driven told z = refl
all-same items (c ∷ cs) notes right driven told z =
    let parts = told-parts c.operation (exits_in cs) notes told in
    let a = job-same items c.operation c.reply notes right.0 right.1 driven.0 parts.0 z in
    let b = all-same items cs (notes_after c.operation notes) right.2 driven.1 parts.1 (λ m. none-after (bad items m) c.operation notes (z m)) in
    λ i. a i ++ b i

module _ (items : List Item) (cs : List Call) (right : AreRightCalls items cs) (entered : List Note) (others : (Child → ℕ) → ℕ) where
  below : AreDriven cs → exits_in cs ≡ exits entered → ((h : Child → ℕ) → weigh h (jobs_made cs entered) ≡ weigh h (ended entered) + others h) → (m : ℕ) → weigh (bad items m) (jobs_made cs entered) ≡ 0
  below driven told account zero = none-below items (jobs_made cs entered)
  below driven told account (suc m) =
      let before = below driven told account m in
      let all = account (bad items m) in
      next-right items m cs entered right told (omega (arith, before, all))

  -- where each job is that of a note that was entered or another, each job has the argument that the account gives its child
  pub agrees : AreDriven cs → exits_in cs ≡ exits entered → ((h : Child → ℕ) → weigh h (jobs_made cs entered) ≡ weigh h (ended entered) + others h) → jobs_made cs entered ≡ children_made items cs
  agrees driven told account =
      all-same items cs entered right driven told
      (λ m. let before = below driven told account m in let all = account (bad items m) in omega (arith, before, all))
