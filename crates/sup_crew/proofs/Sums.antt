-- The ends told by each poster's notes, added up, are the ends told by all the notes.
use Rattle.std.proofs.Common.{◌≡◌, ℕ, zero, suc, ◌+◌, ◌<◌, ◌≤◌, List, [], ◌∷◌, ◌++◌, length, refl, sym, ap, ◌∙◌, subst, arith, Option, Some, None}
use Rattle.std.specs.Prelude.{All, MatchOption}
use native.Mathlib.Decide.{ℕ_discrete}
use mathlib.Core.Logic.{dite}
use Rattle.std.specs.Global.{Global}
use Rattle.atomic_table.specs.Seated.{TableId}
use Rattle.crossbeam_queue.specs.SegTies.{SegId}
use Rattle.sup_inbox.specs.declared.note.Note.{Note}
use Rattle.sup_types.specs.declared.reason.Reason.{Reason}
use Rattle.sup_inbox.specs.Delivery.{from}
use Rattle.sup_inbox.specs.Ends.{Posting, AreFrom, IsBy}
use Rattle.sup_inbox.specs.NoteLaws.{from-own, from-other}
use Rattle.sup_types.specs.declared.text.Text.{Text}
use Rattle.sup_crew.specs.declared.job.Child.{Child}
use Rattle.sup_crew.specs.declared.worker.Finished.{Finished}
use Rattle.sup_crew.specs.Jobs.{weigh}
use Rattle.sup_crew.specs.Work.{AreWorked, ended_of, ended, untold, AreEnds, IsEnd}
use Rattle.sup_crew.specs.Joins.{note_in, posters_of, taken_of, unposted_of, AreEndpoints}
use Rattle.sup_crew.specs.JobLaws.{weigh-append, weigh-one}
use Rattle.sup_crew.specs.WorkLaws.{ended-append}

-- a note that may be there, as a list of one at most
pub note_is : (note : Option Note) (list : List Note) → MatchOption note (list ≡ []) (λ n. list ≡ n ∷ []) → (list ≡ note_in note) × (length list ≤ 1)
note_is None list e = let n = ap (λ (l : List Note). length l) e in (e, omega (arith, n))
note_is (Some note) list e = let n = ap (λ (l : List Note). length l) e in (e, omega (arith, n))

-- the weight of what notes tell
abbrev told : (Child → ℕ) → List Note → ℕ
told h ns = weigh h (ended ns)

-- what the posters first, first + 1, .. tell, n of them
abbrev span : (Child → ℕ) → List Note → ℕ → ℕ → ℕ
span h ns first zero = 0
span h ns first (suc n) = told h (from ns first) + span h ns (suc first) n

span-out : (h : Child → ℕ) (x : Note) (xs : List Note) (first n : ℕ) → x.poster < first → span h (x ∷ xs) first n ≡ span h xs first n
span-out h x xs first zero low = refl
span-out h x xs first (suc n) low =
    let a = ap (told h) (from-other x xs first (λ e. omega (arith, e, low))) in
    let b = span-out h x xs (suc first) n (omega arith) in
    omega (arith, a, b)

span-in : (h : Child → ℕ) (x : Note) (xs : List Note) (first n : ℕ) → first ≤ x.poster → x.poster < first + n → span h (x ∷ xs) first n ≡ h (ended_of x) + span h xs first n
span-in h x xs first zero low high = absurd (omega arith)
span-in h x xs first (suc n) low high =
    dite (ℕ_discrete x.poster first)
    (λ e. let a = ap (told h) (from-own x xs first e) in let b = span-out h x xs (suc first) n (omega (arith, e)) in omega (arith, a, b))
    (λ d. let a = ap (told h) (from-other x xs first d) in let b = span-in h x xs (suc first) n (omega (arith, d, low)) (omega arith) in omega (arith, a, b))

span-none : (h : Child → ℕ) (first n : ℕ) → span h [] first n ≡ 0
span-none h first zero = refl
span-none h first (suc n) = let r = span-none h (suc first) n in omega (arith, r)

-- where each note is by one of the posters 1 to n
span-all : (h : Child → ℕ) (n : ℕ) (xs : List Note) → All (IsBy n) xs → span h xs 1 n ≡ told h xs
span-all h n [] by = span-none h 1 n
span-all h n (x ∷ xs) by =
    let one = by 0 x (omega arith) in
    let rest = span-all h n xs (λ k d low. by (suc k) d (omega (arith, low))) in
    let a = span-in h x xs 1 n one.0 (omega (arith, one.1)) in
    omega (arith, a, rest)

-- what the posters told
abbrev pub told_by : (Child → ℕ) → List Posting → ℕ
told_by h [] = 0
told_by h (p ∷ ps) = told h p.posted + told_by h ps

span-posters : (h : Child → ℕ) (id : TableId) (first : ℕ) (notes : List Note) (ps : List Posting) → AreFrom id first ps → All (λ (p : Posting). from notes p.number ≡ p.posted) ps → told_by h ps ≡ span h notes first (length ps)
span-posters h id first notes [] rows each = refl
span-posters h id first notes (p ∷ ps) rows each =
    let r = span-posters h id (suc first) notes ps rows.2 (λ k d low. each (suc k) d (omega (arith, low))) in
    let a = ap (told h) (sym (each 0 p (omega arith)) ∙ ap (λ w. from notes w) rows.1) in
    omega (arith, r, a)

pub told-all : (h : Child → ℕ) (id : TableId) (notes : List Note) (ps : List Posting) → AreFrom id 1 ps → All (λ (p : Posting). from notes p.number ≡ p.posted) ps → All (IsBy (length ps)) notes → told_by h ps ≡ weigh h (ended notes)
told-all h id notes ps rows each by = span-posters h id 1 notes ps rows each ∙ span-all h (length ps) notes by

ends-from : (m : ℕ → Text → Reason → Type 0) (n : ℕ) (notes : List Note) → All (IsBy n) notes → ((w : ℕ) → 1 ≤ w → w ≤ n → AreEnds m (from notes w)) → AreEnds m notes
ends-from m n [] by each = tt
ends-from m n (x ∷ xs) by each =
    let one = by 0 x (omega arith) in
    let mine = subst (AreEnds m) (from-own x xs x.poster refl) (each x.poster one.0 one.1) in
    (mine.0, ends-from m n xs (λ k d low. by (suc k) d (omega (arith, low))) (λ w low high. dite (ℕ_discrete x.poster w) (λ e. (subst (AreEnds m) (from-own x xs w e) (each w low high)).1) (λ d. subst (AreEnds m) (from-other x xs w d) (each w low high))))

module _ {N : Type 0} where
  -- what the hands took is what their posters told and what came back
  pub taken-told : (h : Child → ℕ) (m : ℕ → Text → Reason → Type 0) (q : SegId Global) (i : TableId) (first : ℕ) (rs : List (Finished N)) → AreWorked m q i first rs → weigh h (taken_of rs) ≡ told_by h (posters_of rs) + weigh h (ended (unposted_of rs))
  taken-told h m q i first [] all = refl
  taken-told h m q i first (r ∷ rs) all =
      let rest = taken-told h m q i (suc first) rs all.1 in
      let a = weigh-append h r.endpoint.permission.taken (taken_of rs) in
      let b = all.0.account h in
      let d = back-weigh h r.unposted (unposted_of rs) in
      omega (arith, rest, a, b, d)
    where
      back-weigh : (h : Child → ℕ) (o : Option Note) (bs : List Note) → weigh h (ended (note_in o ++ bs)) ≡ weigh h (untold o) + weigh h (ended bs)
      back-weigh h None bs = omega arith
      back-weigh h (Some b) bs = omega arith

  pub endpoints : (m : ℕ → Text → Reason → Type 0) (q : SegId Global) (i : TableId) (first : ℕ) (rs : List (Finished N)) → AreWorked m q i first rs → AreEndpoints q rs
  endpoints m q i first [] all = tt
  endpoints m q i first (r ∷ rs) all = (all.0.of_queue, all.0.put.0, all.0.put.1, endpoints m q i (suc first) rs all.1)

  pub rows_of : (m : ℕ → Text → Reason → Type 0) (q : SegId Global) (i : TableId) (first : ℕ) (rs : List (Finished N)) → AreWorked m q i first rs → AreFrom i first (posters_of rs)
  rows_of m q i first [] all = tt
  rows_of m q i first (r ∷ rs) all = (all.0.of_inbox, all.0.number_is, rows_of m q i (suc first) rs all.1)

  pub posters-length : (rs : List (Finished N)) → length (posters_of rs) ≡ length rs
  posters-length [] = refl
  posters-length (r ∷ rs) = ap suc (posters-length rs)

  -- each note that came back gives a reason of its child
  pub back_ends : (m : ℕ → Text → Reason → Type 0) (q : SegId Global) (i : TableId) (first : ℕ) (rs : List (Finished N)) → AreWorked m q i first rs → AreEnds m (unposted_of rs)
  back_ends m q i first [] all = tt
  back_ends m q i first (r ∷ rs) all = add r.poster r.unposted all.0.unposted (back_ends m q i (suc first) rs all.1)
    where
      add : (p : Posting) (o : Option Note) → IsEnd m p o → AreEnds m (unposted_of rs) → AreEnds m (note_in o ++ unposted_of rs)
      add p None e rest = rest
      add p (Some b) e rest = (e.0, rest)

  -- where each poster's notes give such reasons, all notes do
  ends-at : (m : ℕ → Text → Reason → Type 0) (q : SegId Global) (i : TableId) (first : ℕ) (rs : List (Finished N)) (notes : List Note) → AreWorked m q i first rs → All (λ (p : Posting). from notes p.number ≡ p.posted) (posters_of rs)
      → (w : ℕ) → first ≤ w → w < first + length rs → AreEnds m (from notes w)
  ends-at m q i first [] notes all each w low high = absurd (omega arith)
  ends-at m q i first (r ∷ rs) notes all each w low high =
      dite (ℕ_discrete w first)
      (λ e. subst (AreEnds m) (sym (ap (λ n. from notes n) (e ∙ sym all.0.number_is) ∙ each 0 r.poster (omega arith))) all.0.posted)
      (λ d. ends-at m q i (suc first) rs notes all.1 (λ k p under. each (suc k) p (omega (arith, under))) w (omega (arith, d, low)) (omega arith))

  pub ends-all : (m : ℕ → Text → Reason → Type 0) (q : SegId Global) (i : TableId) (rs : List (Finished N)) (notes : List Note) → AreWorked m q i 1 rs → All (λ (p : Posting). from notes p.number ≡ p.posted) (posters_of rs) → All (IsBy (length rs)) notes → AreEnds m notes
  ends-all m q i rs notes all each by = ends-from m (length rs) notes by (λ w low high. ends-at m q i 1 rs notes all each w low (omega (arith, high)))

  -- of a run that was settled: what its workers told
  pub run_told : (h : Child → ℕ) (m : ℕ → Text → Reason → Type 0) (q : SegId Global) (i : TableId) (rs : List (Finished N)) (ps : List Posting) (took taken left : List Note) (n : ℕ) → AreWorked m q i 1 rs → ps ≡ posters_of rs → took ≡ taken → n ≡ length rs
      → All (λ (p : Posting). from (took ++ left) p.number ≡ p.posted) ps → All (IsBy n) (took ++ left) → told_by h (posters_of rs) ≡ weigh h (ended taken) + weigh h (ended left)
  run_told h m q i rs ps took taken left n all same t count each by =
      let each' = subst (λ (x : List Note × List Posting). All (λ (p : Posting). from (x.0 ++ left) p.number ≡ p.posted) x.1) (λ k. (t k, same k)) each in
      let by' = subst (λ (x : List Note × ℕ). All (IsBy x.1) (x.0 ++ left)) (λ k. (t k, (count ∙ sym (posters-length rs)) k)) by in
      told-all h i (taken ++ left) (posters_of rs) (rows_of m q i 1 rs all) each' by' ∙ ap (weigh h) (ended-append taken left) ∙ weigh-append h (ended taken) (ended left)

  -- and that each note gives a reason of its child
  pub run_ends : (m : ℕ → Text → Reason → Type 0) (q : SegId Global) (i : TableId) (rs : List (Finished N)) (ps : List Posting) (took taken left : List Note) (n : ℕ) → AreWorked m q i 1 rs → ps ≡ posters_of rs → took ≡ taken → n ≡ length rs
      → All (λ (p : Posting). from (took ++ left) p.number ≡ p.posted) ps → All (IsBy n) (took ++ left) → AreEnds m (taken ++ left)
  run_ends m q i rs ps took taken left n all same t count each by =
      let each' = subst (λ (x : List Note × List Posting). All (λ (p : Posting). from (x.0 ++ left) p.number ≡ p.posted) x.1) (λ k. (t k, same k)) each in
      let by' = subst (λ (x : List Note × ℕ). All (IsBy x.1) (x.0 ++ left)) (λ k. (t k, count k)) by in
      ends-all m q i rs (taken ++ left) all each' by'

pub lengths : (put left all : List Child) → ((h : Child → ℕ) → weigh h put + weigh h left ≡ weigh h all) → length put + length left ≡ length all
lengths put left all e =
    let a = weigh-one put in
    let b = weigh-one left in
    let c = weigh-one all in
    let d = e (λ _. 1) in
    omega (arith, a, b, c, d)
