-- Each step keeps the rule of the inbox.
use Rattle.std.proofs.Common.{◌≡◌, ◌≢◌, ◌⊎◌, ℕ, zero, suc, ◌+◌, ◌<◌, ◌≤◌, true, false, true≢false, cond, eq-eqb, ne_eqb, List, [], ◌∷◌, ◌++◌, length, length-append, set, refl, sym, ap, ◌∙◌, subst, inl, inr, ⊎_elim, arith, append_assoc, append-nil}
use Rattle.std.specs.Prelude.{◌==◌}
use native.Mathlib.Decide.{dec_le, ℕ_discrete}
use mathlib.Core.Logic.{dite}
use mathlib.Core.Option.{some, some-ne-none, some-injective}
use lib.ListN.{get_elem?}
use Rattle.crossbeam_queue.specs.Fifo.{Pushes, Pops, Forks, Merges, Learns}
use Rattle.crossbeam_queue.proofs.Lists.{at_set}
use Rattle.sup_inbox.specs.declared.note.Note.{Note}
use Rattle.sup_inbox.specs.declared.rule.Sent.{Sent}
use Rattle.sup_inbox.specs.declared.rule.View.{View}
use Rattle.sup_inbox.specs.Delivery.{from, total, sum_of, sum_idle, root, nobody, opened, seat, gathered, posts, takes, AreGathered, AreSent, IsIdle, Fits, Delivers, IsSettled}
use Rattle.sup_inbox.specs.NoteLaws.{from-append, from-own, from-other, counts, members}

abbrev AllFit : ℕ → (ℕ → ℕ) → (ℕ → List Note) → List Note → List View → Type 0
AllFit taker places sent taken views = (j : ℕ) (u : View) → get_elem? views j ≡ some u → Fits taker places sent taken j u

off : false ≡ true → ⊥
off e = true≢false (sym e)

fits_set : (taker : ℕ) (places : ℕ → ℕ) (sent : ℕ → List Note) (taken : List Note) (views : List View) (pass : ℕ) (w : View)
    → ((j : ℕ) (u : View) → j ≢ pass → get_elem? views j ≡ some u → Fits taker places sent taken j u) → Fits taker places sent taken pass w → AllFit taker places sent taken (set views pass w)
fits_set taker places sent taken views pass w others mine j u e =
    ⊎_elim
    (λ (x : (j ≡ pass) × (w ≡ u)). subst (λ (y : ℕ × View). Fits taker places sent taken y.0 y.1) (λ i. (sym x.0 i, x.1 i)) mine)
    (λ (x : (j ≢ pass) × (get_elem? views j ≡ some u)). others j u x.0 x.1)
    (at_set views pass j w u e)

at_end : (l : List View) (a b : View) (j : ℕ) → get_elem? (l ++ a ∷ []) j ≡ some b → (get_elem? l j ≡ some b) ⊎ ((j ≡ length l) × (a ≡ b))
at_end [] a b zero e = inr (refl, some-injective a b e)
at_end [] a b (suc j) e = absurd (some-ne-none b (sym e))
at_end (x ∷ xs) a b zero e = inl e
at_end (x ∷ xs) a b (suc j) e = ⊎_elim (λ t. inl t) (λ (t : (j ≡ length xs) × (a ≡ b)). inr (ap suc t.0, t.1)) (at_end xs a b j e)

pub begins : Delivers [] (root ∷ [])
begins = (0, (λ _. 0), (λ _. []), [], (λ w. refl), one)
  where
    one : AllFit 0 (λ _. 0) (λ _. []) [] (root ∷ [])
    one zero v e = subst (Fits 0 (λ _. 0) (λ _. []) [] 0) (some-injective _ _ e) (
      (λ p. absurd (off p)),
      λ _. record { one = refl; took = refl; none = (refl, refl); later = λ w h. (refl, refl); known = tt; once = λ f. refl },
    )
    one (suc j) v e = absurd (some-ne-none v (sym e))

are_gathered-sent : (made : ℕ) (places : ℕ → ℕ) (sent sent' : ℕ → List Note) → ((w : ℕ) → places w ≡ 0 → sent' w ≡ sent w) → (ss : List Sent) → AreGathered made places sent ss → AreGathered made places sent' ss
are_gathered-sent made places sent sent' same [] h = tt
are_gathered-sent made places sent sent' same (s ∷ ss) h = (h.0, h.1, h.2 ∙ sym (same s.poster h.1), are_gathered-sent made places sent sent' same ss h.3)

are_gathered-places : (made made' : ℕ) (places places' : ℕ → ℕ) (sent : ℕ → List Note) → made ≤ made' → ((w : ℕ) → w ≤ made → places w ≡ 0 → places' w ≡ 0) → (ss : List Sent) → AreGathered made places sent ss → AreGathered made' places' sent ss
are_gathered-places made made' places places' sent more same [] h = tt
are_gathered-places made made' places places' sent more same (s ∷ ss) h = (omega (arith, more, h.0), same s.poster h.0 h.1, h.2, are_gathered-places made made' places places' sent more same ss h.3)

are_gathered-snoc : (made : ℕ) (places : ℕ → ℕ) (sent : ℕ → List Note) (ss : List Sent) (s : Sent) → AreGathered made places sent ss → s.poster ≤ made → places s.poster ≡ 0 → s.notes ≡ sent s.poster → AreGathered made places sent (ss ++ s ∷ [])
are_gathered-snoc made places sent [] s h low none is = (low, none, is, tt)
are_gathered-snoc made places sent (t ∷ ss) s h low none is = (h.0, h.1, h.2, are_gathered-snoc made places sent ss s h.3 low none is)

are_sent : (made : ℕ) (places : ℕ → ℕ) (sent : ℕ → List Note) (notes : List Note) → ((w : ℕ) → from notes w ≡ sent w) → (ss : List Sent) → AreGathered made places sent ss → AreSent notes ss
are_sent made places sent notes has [] h = tt
are_sent made places sent notes has (s ∷ ss) h = (has s.poster ∙ sym h.2, are_sent made places sent notes has ss h.3)

sum_of-snoc : (f : ℕ → ℕ) (ss : List Sent) (s : Sent) → sum_of f (ss ++ s ∷ []) ≡ sum_of f ss + f s.poster
sum_of-snoc f [] s = omega arith
sum_of-snoc f (t ∷ ss) s = let r = sum_of-snoc f ss s in omega (arith, r)

sum_idle-same : (places places' f : ℕ → ℕ) (n : ℕ) → ((w : ℕ) → w ≤ n → places' w ≡ places w) → sum_idle places' f n ≡ sum_idle places f n
sum_idle-same places places' f zero same = refl
sum_idle-same places places' f (suc n) same = λ i. sum_idle-same places places' f n (λ w low. same w (omega (arith, low))) i + cond (same (suc n) (omega arith) i == 0) (f (suc n)) 0

-- what a poster's note adds to the notes of the poster w
quiet : (places : ℕ → ℕ) (pass : ℕ) (x : Note) (w : ℕ) → places x.poster ≡ suc pass → places w ≢ suc pass → from (x ∷ []) w ≡ []
quiet places pass x w own other = from-other x [] w (λ e. other (sym (ap places e) ∙ own))

add-none : (xs ys : List Note) → ys ≡ [] → xs ++ ys ≡ xs
add-none xs ys e = ap (λ l. xs ++ l) e ∙ append-nil xs

pub pushes : (n pass : ℕ) (v : View) (x : Note) → v.posts ≡ true → x.poster ≡ v.poster → Pushes Delivers n pass v x (λ w. w ≡ posts v x)
pushes n pass v x may by items views room h at =
    let taker = h.0 in let places = h.1 in let sent = h.2 in let taken = h.3 in
    let sent' : ℕ → List Note = λ w. sent w ++ from (x ∷ []) w in
    let mine = (h.5 pass v at).0 may in
    let own : places x.poster ≡ suc pass = ap places by ∙ mine.0 in
    let still : (w : ℕ) → places w ≢ suc pass → sent' w ≡ sent w = λ w other. add-none (sent w) (from (x ∷ []) w) (quiet places pass x w own other) in
    let rest : (w : ℕ) → places w ≡ 0 → sent' w ≡ sent w = λ w e. still w (λ s. omega (arith, e, s)) in
    let idle : (w : ℕ) → IsIdle places sent w → IsIdle places sent' w = λ w i. (i.0, rest w i.0 ∙ i.1) in (
      posts v x,
      (
        taker,
        places,
        sent',
        taken,
        (λ w. ap (λ l. from l w) (sym (append_assoc taken items (x ∷ []))) ∙ from-append (taken ++ items) (x ∷ []) w ∙ ap (λ l. l ++ from (x ∷ []) w) (h.4 w)),
        fits_set taker places sent' taken views pass (posts v x)
            (λ j u apart e.
            let f = h.5 j u e in (
              (λ p. let q = f.0 p in (q.0, q.1 ∙ sym (still u.poster (λ s. let s' = q.0 in apart (omega (arith, s, s')))))),
              (λ p. let t = f.1 p in record {
                one = t.one;
                took = t.took;
                none = idle 0 t.none;
                later = λ w low. idle w (t.later w low);
                known = are_gathered-sent u.made places sent sent' rest u.gathered t.known;
                once = t.once;
              }),
            ))
            ((λ _. (mine.0, λ i. mine.1 i ++ sym (from-own x [] v.poster by) i)), (λ p. absurd (off p))),
      ),
      refl,
    )

pub pops : (pass : ℕ) (v : View) → v.takes ≡ true → Pops Delivers pass v (λ x w. w ≡ takes v x)
pops pass v may x items views h at =
    let taker = h.0 in let places = h.1 in let sent = h.2 in let taken = h.3 in
    let mine = (h.5 pass v at).1 may in
    let taken' = taken ++ x ∷ [] in (
      takes v x,
      (
        taker,
        places,
        sent,
        taken',
        (λ w. ap (λ l. from l w) (append_assoc taken (x ∷ []) items) ∙ h.4 w),
        fits_set taker places sent taken' views pass (takes v x)
            (λ j u apart e. ((h.5 j u e).0, (λ p. absurd (apart (((h.5 j u e).1 p).one ∙ sym mine.one)))))
            ((λ p. absurd (off p)), (λ _. record { one = mine.one; took = ap (λ l. l ++ x ∷ []) mine.took; none = mine.none; later = mine.later; known = mine.known; once = mine.once })),
      ),
      refl,
    )

-- the places with one changed
abbrev put : (ℕ → ℕ) → ℕ → ℕ → ℕ → ℕ
put places n to w = cond (n == w) to (places w)

put-here : (places : ℕ → ℕ) (n to w : ℕ) → n ≡ w → put places n to w ≡ to
put-here places n to w e = ap (λ b. cond b to (places w)) (eq-eqb n w e)

put-else : (places : ℕ → ℕ) (n to w : ℕ) → n ≢ w → put places n to w ≡ places w
put-else places n to w e = ap (λ b. cond b to (places w)) (ne_eqb n w e)

pub forks : (pass : ℕ) (v : View) → v.takes ≡ true → Forks Delivers pass v (opened v) (seat v)
forks pass v may items views h at =
    let taker = h.0 in let places = h.1 in let sent = h.2 in let taken = h.3 in
    let mine = (h.5 pass v at).1 may in
    let next = v.made + 1 in
    let new = mine.later next (omega arith) in
    let views' : List View = set views pass (opened v) in
    let places' : ℕ → ℕ = put places next (suc (length views')) in
    let same : (w : ℕ) → next ≢ w → places' w ≡ places w = λ w. put-else places next (suc (length views')) w in
    let idle : (w : ℕ) → next ≢ w → IsIdle places sent w → IsIdle places' sent w = λ w apart i. (same w apart ∙ i.0, i.1) in
    let old : AllFit taker places' sent taken views' = fits_set taker places' sent taken views pass (opened v)
    (λ j u apart e.
    let f = h.5 j u e in (
      (λ p. let q = f.0 p in (same u.poster (λ s. let a = ap places s in let b = q.0 in let c = new.0 in omega (arith, a, b, c)) ∙ q.0, q.1)),
      (λ p. absurd (apart ((f.1 p).one ∙ sym mine.one))),
    )) (
      (λ p. absurd (off p)),
      (λ _. record {
        one = mine.one;
        took = mine.took;
        none = idle 0 (λ s. omega (arith, s)) mine.none;
        later = λ w low. idle w (λ s. omega (arith, s, low)) (mine.later w (omega (arith, low)));
        known = are_gathered-places v.made next places places' sent (omega arith) (λ w low z. same w (λ s. omega (arith, s, low)) ∙ z) v.gathered mine.known;
        once = λ f.
            let one : next ≡ suc v.made = omega arith in
            let all = ap (sum_idle places' f) one in
            let below = sum_idle-same places places' f v.made (λ w low. same w (λ s. omega (arith, s, low))) in
            let last = ap (λ b. cond b (f (suc v.made)) 0) (ne_eqb (places' (suc v.made)) 0 (λ z. let p = put-here places next (suc (length views')) (suc v.made) one in omega (arith, z, p))) in
            let m = mine.once f in
            omega (arith, all, below, last, m);
      }),
    ) in
    let fresh : Fits taker places' sent taken (length views') (seat v) = ((λ _. (put-here places next (suc (length views')) next refl, sym new.1)), (λ p. absurd (off p))) in (
      taker,
      places',
      sent,
      taken,
      h.4,
      λ j u e. ⊎_elim (λ was. old j u was)
          (λ (t : (j ≡ length views') × (seat v ≡ u)). subst (λ (y : ℕ × View). Fits taker places' sent taken y.0 y.1) (λ i. (sym t.0 i, t.1 i)) fresh)
          (at_end views' (seat v) u j e),
    )

sum_idle-put : (places f : ℕ → ℕ) (n w : ℕ) → places w ≢ 0 → 1 ≤ w → w ≤ n → sum_idle (put places w 0) f n ≡ sum_idle places f n + f w
sum_idle-put places f zero w has first high = absurd (omega (arith, first, high))
sum_idle-put places f (suc n) w has first high =
    dite (ℕ_discrete w (suc n))
    (λ e.
    let below = sum_idle-same places (put places w 0) f n (λ v low. put-else places w 0 v (λ s. omega (arith, e, s, low))) in
    let new = ap (λ p. cond (p == 0) (f (suc n)) 0) (put-here places w 0 (suc n) e) in
    let old = ap (λ b. cond b (f (suc n)) 0) (ne_eqb (places (suc n)) 0 (λ z. has (ap places e ∙ z))) in
    let same = ap f e in
    omega (arith, below, new, old, same))
    (λ d.
    let less = sum_idle-put places f n w has first (omega (arith, d, high)) in
    let last = ap (λ p. cond (p == 0) (f (suc n)) 0) (put-else places w 0 (suc n) d) in
    omega (arith, less, last))

pub merges : (pass : ℕ) (v : View) (other : ℕ) (u : View) → v.takes ≡ true → u.posts ≡ true → Merges Delivers pass v other u (gathered v u) nobody
merges pass v other u may posting items views h at apart there =
    let taker = h.0 in let places = h.1 in let sent = h.2 in let taken = h.3 in
    let mine = (h.5 pass v at).1 may in
    let both = gathered v u in
    let was : get_elem? views other ≡ some u = ⊎_elim (λ (x : (other ≡ pass) × (both ≡ u)). absurd (apart x.0)) (λ (x : (other ≢ pass) × (get_elem? views other ≡ some u)). x.1) (at_set views pass other both u there) in
    let theirs = (h.5 other u was).0 posting in
    let places' : ℕ → ℕ = put places u.poster 0 in
    let same : (w : ℕ) → u.poster ≢ w → places' w ≡ places w = λ w. put-else places u.poster 0 w in
    let rest : (w : ℕ) → places w ≡ 0 → places' w ≡ 0 = λ w e. dite (ℕ_discrete u.poster w) (λ s. put-here places u.poster 0 w s) (λ n. same w n ∙ e) in
    let idle : (w : ℕ) → IsIdle places sent w → IsIdle places' sent w = λ w i. (rest w i.0, i.1) in
    let made : u.poster ≤ v.made = dite (dec_le u.poster v.made) (λ b. b) (λ n. let a = (mine.later u.poster (omega (arith, n))).0 in let b = theirs.0 in absurd (omega (arith, a, b))) in
    let has : places u.poster ≢ 0 = λ z. let c = theirs.0 in omega (arith, z, c) in
    let first : 1 ≤ u.poster = dite (ℕ_discrete u.poster 0) (λ e. absurd (has (ap places e ∙ mine.none.0))) (λ n. omega (arith, n)) in
    let one : Sent = record { poster = u.poster; notes = u.posted } in
    let known = are_gathered-snoc v.made places' sent v.gathered one (are_gathered-places v.made v.made places places' sent (omega arith) (λ w low z. rest w z) v.gathered mine.known) made (put-here places u.poster 0 u.poster refl) theirs.1 in
    let once : (f : ℕ → ℕ) → sum_idle places' f v.made ≡ sum_of f both.gathered = λ f.
    let a = sum_idle-put places f v.made u.poster has first made in
    let b = sum_of-snoc f v.gathered one in
    let m = mine.once f in
    omega (arith, a, b, m) in
    let Now : ℕ → View → Type 0 = λ j y. j ≢ other → Fits taker places' sent taken j y in
    let now : (j : ℕ) (y : View) → j ≢ other → get_elem? (set views pass both) j ≡ some y → Fits taker places' sent taken j y = λ j y away e.
    ⊎_elim
    (λ (x : (j ≡ pass) × (both ≡ y)). subst (λ (z : ℕ × View). Fits taker places' sent taken z.0 z.1) (λ i. (sym x.0 i, x.1 i))
    ((λ p. absurd (off p)), (λ _. record { one = mine.one; took = mine.took; none = idle 0 mine.none; later = λ w low. idle w (mine.later w low); known = known; once = once })))
    (λ (x : (j ≢ pass) × (get_elem? views j ≡ some y)).
    let f = h.5 j y x.1 in (
      (λ p. let q = f.0 p in (same y.poster (λ s. let a = ap places s in let b = q.0 in let c = theirs.0 in away (omega (arith, a, b, c))) ∙ q.0, q.1)),
      (λ p. absurd (x.0 ((f.1 p).one ∙ sym mine.one))),
    ))
    (at_set views pass j both y e) in (
      taker,
      places',
      sent,
      taken,
      h.4,
      fits_set taker places' sent taken (set views pass both) other nobody now ((λ p. absurd (off p)), (λ p. absurd (off p))),
    )

pub settled : (pass : ℕ) (v : View) → v.takes ≡ true → length v.gathered ≡ v.made → Learns Delivers pass v (IsSettled v)
settled pass v may all items views h at =
    let sent = h.2 in
    let mine = (h.5 pass v at).1 may in
    let notes = v.taken ++ items in
    let has : (w : ℕ) → from notes w ≡ sent w = λ w. ap (λ l. from (l ++ items) w) mine.took ∙ h.4 w in
    let each = are_sent v.made h.1 sent notes has v.gathered mine.known in
    let none : from notes 0 ≡ [] = has 0 ∙ mine.none.1 in
    let later : (w : ℕ) → v.made < w → from notes w ≡ [] = λ w low. has w ∙ (mine.later w low).1 in
    record { each = each; none = none; later = later; members = members h.1 v.made v.gathered all mine.once; count = sym (length-append v.taken items) ∙ counts h.1 v.made notes v.gathered all mine.once each none later }

pub empties : (pass : ℕ) (v : View) → v.takes ≡ true → length v.gathered ≡ v.made → Pops Delivers pass v (λ x w. (w ≡ takes v x) × (length w.taken ≤ total v.gathered))
empties pass v may all x items views h at =
    let step = pops pass v may x items views h at in
    let now = settled pass v may all (x ∷ items) views h at in
    let c = now.count in
    let l = length-append v.taken (x ∷ []) in
    (step.0, step.1, (step.2, let e = ap (λ (w : View). length w.taken) step.2 in omega (arith, c, l, e)))
