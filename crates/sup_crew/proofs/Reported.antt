-- What the account of a run says of the calls of its driver.
use Rattle.std.proofs.Common.{◌≡◌, ℕ, suc, ◌+◌, List, [], ◌∷◌, ◌++◌, length, take, drop, take-append-drop, Option, Some, None, refl, ap, sym, ◌∙◌, subst, arith}
use Rattle.std.specs.Prelude.{IfNone}
use Rattle.std.proofs.lemmas.List.{drop_all}
use Rattle.sup_types.specs.declared.text.Text.{Text}
use Rattle.sup_types.specs.declared.reason.Reason.{Reason}
use Rattle.sup_types.specs.declared.history.Operation.{Operation}
use Rattle.sup_types.specs.declared.history.Operation.TheVariants.{Start, Exit, Retry, Terminate, Stop}
use Rattle.sup_types.specs.declared.history.Reply.{Reply}
use Rattle.sup_types.specs.declared.history.Reply.TheVariants.{Started, Restarted}
use Rattle.sup_core.specs.Account.{Item, argument_of}
use Rattle.sup_inbox.specs.declared.note.Note.{Note}
use Rattle.sup_crew.specs.declared.job.Child.{Child}
use Rattle.sup_crew.specs.Calls.{Call, child_made, children_made, exits_in, notes_after, jobs_made, AreDriven}
use Rattle.sup_crew.specs.Exits.{exit_of, exits}
use Rattle.sup_crew.specs.Jobs.{weigh}
use Rattle.sup_crew.specs.Reports.{child_ended, children_ended, IsNamed, AreNamed, AreOwn}
use Rattle.sup_crew.specs.Work.{ended, AreEnds}
use Rattle.sup_crew.proofs.Agree.{bad, bad-right, right-of, told-parts, agrees}
use Rattle.sup_crew.proofs.Right.{AreRightCalls}
use Rattle.sup_crew.specs.JobLaws.{weigh-append}

-- children of which none is bad have the arguments that the account gives them
own-of : (items : List Item) (cs : List Child) → ((m : ℕ) → weigh (bad items m) cs ≡ 0) → AreOwn items cs
own-of items [] z = tt
own-of items (c ∷ cs) z =
    let all = z (suc c.number) in
    (right-of items (suc c.number) c (omega arith) (omega (arith, all)), own-of items cs (λ m. let one = z m in omega (arith, one)))

made_good : (items : List Item) (m : ℕ) (reply : Reply) → weigh (bad items m) (child_made items reply) ≡ 0
made_good items m (Started number) = let a = bad-right items m (record { number = number; arg = argument_of items number }) refl in omega (arith, a)
made_good items m (Restarted old number) = let a = bad-right items m (record { number = number; arg = argument_of items number }) refl in omega (arith, a)
made_good items m _ = refl

all_good : (items : List Item) (m : ℕ) (cs : List Call) → weigh (bad items m) (children_made items cs) ≡ 0
all_good items m [] = refl
all_good items m (c ∷ cs) =
    let a = made_good items m c.reply in
    let b = all_good items m cs in
    let w = weigh-append (bad items m) (child_made items c.reply) (children_made items cs) in
    omega (arith, a, b, w)

-- what holds of the notes holds of the remaining ones
own_after : (items : List Item) (operation : Operation) (notes : List Note) → AreOwn items (ended notes) → AreOwn items (ended (notes_after operation notes))
own_after items (Exit number reason) [] own = own
own_after items (Exit number reason) (note ∷ notes) own = own.1
own_after items (Start arg) notes own = own
own_after items (Retry number) notes own = own
own_after items (Terminate number) notes own = own
own_after items Stop notes own = own

ends_after : (may_end : ℕ → Text → Reason → Type 0) (operation : Operation) (notes : List Note) → AreEnds may_end notes → AreEnds may_end (notes_after operation notes)
ends_after may_end (Exit number reason) [] ends = ends
ends_after may_end (Exit number reason) (note ∷ notes) ends = ends.1
ends_after may_end (Start arg) notes ends = ends
ends_after may_end (Retry number) notes ends = ends
ends_after may_end (Terminate number) notes ends = ends
ends_after may_end Stop notes ends = ends

-- the first note is of the child whose exit the call is, if it is one
one_told : (items : List Item) (operation : Operation) (rest : List Operation) (notes : List Note) → exit_of operation ++ rest ≡ exits notes → AreOwn items (ended notes)
    → ended notes ≡ child_ended items operation ++ ended (notes_after operation notes)
one_told items (Exit number reason) rest [] told own = absurd (cc told)
one_told items (Exit number reason) rest (note ∷ notes) told own =
    let is : note.number ≡ number = cc told in
    let arg : note.arg ≡ argument_of items number = own.0 ∙ ap (argument_of items) is in
    λ i. record { number = is i; arg = arg i } ∷ ended notes
one_told items (Start arg) rest notes told own = refl
one_told items (Retry number) rest notes told own = refl
one_told items (Terminate number) rest notes told own = refl
one_told items Stop rest notes told own = refl

one_named : (may_end : ℕ → Text → Reason → Type 0) (items : List Item) (operation : Operation) (rest : List Operation) (notes : List Note) → exit_of operation ++ rest ≡ exits notes → AreOwn items (ended notes)
    → AreEnds may_end notes → IsNamed may_end items operation
one_named may_end items (Exit number reason) rest [] told own ends = absurd (cc told)
one_named may_end items (Exit number reason) rest (note ∷ notes) told own ends =
    let is : note.number ≡ number = cc told in
    let why : note.reason ≡ reason = cc told in
    let arg : note.arg ≡ argument_of items number = own.0 ∙ ap (argument_of items) is in
    subst (λ (x : ℕ × Text × Reason). may_end x.0 x.1 x.2) (λ i. (is i, arg i, why i)) ends.0
one_named may_end items (Start arg) rest notes told own ends = tt
one_named may_end items (Retry number) rest notes told own ends = tt
one_named may_end items (Terminate number) rest notes told own ends = tt
one_named may_end items Stop rest notes told own ends = tt

-- the notes that were entered are of the children whose exits the calls are
all_told : (items : List Item) (cs : List Call) (notes : List Note) → exits_in cs ≡ exits notes → AreOwn items (ended notes) → ended notes ≡ children_ended items cs
all_told items [] [] told own = refl
all_told items [] (note ∷ notes) told own = absurd (cc told)
all_told items (c ∷ cs) notes told own =
    let rest = (told-parts c.operation (exits_in cs) notes told).1 in
    one_told items c.operation (exits_in cs) notes told own
    ∙ ap (λ l. child_ended items c.operation ++ l) (all_told items cs (notes_after c.operation notes) rest (own_after items c.operation notes own))

all_named : (may_end : ℕ → Text → Reason → Type 0) (items : List Item) (cs : List Call) (notes : List Note) → exits_in cs ≡ exits notes → AreOwn items (ended notes) → AreEnds may_end notes → AreNamed may_end items cs
all_named may_end items [] notes told own ends = tt
all_named may_end items (c ∷ cs) notes told own ends =
    let rest = (told-parts c.operation (exits_in cs) notes told).1 in (
      one_named may_end items c.operation (exits_in cs) notes told own ends,
      all_named may_end items cs (notes_after c.operation notes) rest (own_after items c.operation notes own) (ends_after may_end c.operation notes ends),
    )

-- of a driver whose jobs are those of the notes that were entered, of other notes and of jobs that remain
module _ (items : List Item) (cs : List Call) (right : AreRightCalls items cs) (entered others : List Note) (left : List Child)
    (driven : AreDriven cs)
    (told : exits_in cs ≡ exits entered)
    (jobs : (h : Child → ℕ) → weigh h (jobs_made cs entered) ≡ weigh h (ended entered) + (weigh h (ended others) + weigh h left)) where
  made : (h : Child → ℕ) → weigh h (children_made items cs) ≡ weigh h (ended entered) + (weigh h (ended others) + weigh h left)
  made h = ap (weigh h) (sym (agrees items cs right entered (λ h. weigh h (ended others) + weigh h left) driven told jobs)) ∙ jobs h

  own_entered : AreOwn items (ended entered)
  own_entered = own-of items (ended entered) (λ m. let a = made (bad items m) in let b = all_good items m cs in omega (arith, a, b))

  pub own-others : AreOwn items (ended others)
  own-others = own-of items (ended others) (λ m. let a = made (bad items m) in let b = all_good items m cs in omega (arith, a, b))

  pub own-left : AreOwn items left
  own-left = own-of items left (λ m. let a = made (bad items m) in let b = all_good items m cs in omega (arith, a, b))

  pub named-entered : (may_end : ℕ → Text → Reason → Type 0) → AreEnds may_end entered → AreNamed may_end items cs
  named-entered may_end ends = all_named may_end items cs entered told own_entered ends

  pub agree : (h : Child → ℕ) → weigh h (children_made items cs) ≡ weigh h (children_ended items cs) + weigh h (ended others) + weigh h left
  agree h = let a = made h in let b = ap (weigh h) (all_told items cs entered told own_entered) in omega (arith, a, b)

-- what was started and what was not are the plan
pub all_planned : (begun : List Text) (started : ℕ) (plan unstarted : List Text) → begun ≡ take started plan → unstarted ≡ drop started plan → begun ++ unstarted ≡ plan
all_planned begun started plan unstarted b u = (λ i. b i ++ u i) ∙ take-append-drop started plan

-- if all were started, none remains
pub none_unstarted : {F : Type 0} (fault : Option F) (started : ℕ) (plan rest : List Text) → rest ≡ drop started plan → IfNone fault (started ≡ length plan) → IfNone fault (rest ≡ [])
none_unstarted None started plan rest e all = e ∙ ap (λ n. drop n plan) all ∙ drop_all (length plan) plan (omega arith)
none_unstarted (Some fault) started plan rest e all = tt
