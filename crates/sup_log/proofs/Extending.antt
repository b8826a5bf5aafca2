-- The step that extends the history keeps its rule.
use Rattle.std.proofs.Common.{◌≡◌, ℕ, ◌+◌, ◌<◌, true, List, [], ◌∷◌, ◌++◌, length, append-nil, refl, ap, sym, ◌∙◌, subst, arith, inr, None, Some}
use mathlib.Core.List.{IsPrefix}
use base.Growing.{prefix_trans}
use Rattle.logbook.specs.Pages.{Cell, cell, keeps, no_nib, step, Moves, Goes}
use Rattle.sup_types.specs.declared.history.Entry.{Entry}
use Rattle.sup_log.specs.PrefixLaws.{front_is_whole}
use Rattle.sup_log.specs.PublicationLaws.{steps_grown}
use Rattle.sup_log.specs.Tokens.{Publication, in_one_step}
use Rattle.sup_log.specs.Rules.{IsKept, Adds, asking, Extended, Compared}

abbrev pub shown : List Publication → List Publication
shown log = log

-- whatever the book is, the load runs the update and adds one publication of these entries
pub extends_moves : (v : List Publication) (more : List Entry) (e : Publication) → e ≡ asking 1 → 0 < length more
    → Moves IsKept shown (Adds e) 0 (v, (no_nib, None)) (λ n. n) (Extended more (step 0 0 0 e) (v, (no_nib, None)))
extends_moves v more e one some cs log kept pre away =
    let then = Extended more (step 0 0 0 e) (v, (no_nib, None)) in
    let P : List Cell → Type 0 = λ c. (0 < length c) × ((cell c 0).1 ≡ true) × Goes IsKept shown (Adds e) 0 (v, (no_nib, None)) (λ n. n) then c log in
    let goes : Goes IsKept shown (Adds e) 0 (v, (no_nib, None)) (λ n. n) then ((0, true) ∷ (0, true) ∷ []) log = (
      keeps,
      in_one_step more,
      Some (length (log ++ in_one_step more)),
      tt,
      refl,
      inr (length (log ++ in_one_step more), refl, refl, (refl, steps_grown log more some ∙ ap (λ (p : Publication). length log + p.first.serial) (sym one))),
      (refl, (log, pre, refl)),
    ) in
    subst P (sym kept) (omega arith, refl, goes)

-- whatever the book is, the load runs the update and adds nothing
pub compares_moves : (v : List Publication) (e : Publication) → e ≡ asking 0
    → Moves IsKept shown (Adds e) 0 (v, (no_nib, None)) (λ n. n) (Compared (step 0 0 0 e) (v, (no_nib, None)))
compares_moves v e none cs log kept pre away =
    let then = Compared (step 0 0 0 e) (v, (no_nib, None)) in
    let P : List Cell → Type 0 = λ c. (0 < length c) × ((cell c 0).1 ≡ true) × Goes IsKept shown (Adds e) 0 (v, (no_nib, None)) (λ n. n) then c log in
    let same : log ++ [] ≡ log = append-nil log in
    let many : length (log ++ []) ≡ length log + e.first.serial = omega (arith, ap length same, ap (λ (p : Publication). p.first.serial) none) in
    let goes : Goes IsKept shown (Adds e) 0 (v, (no_nib, None)) (λ n. n) then ((0, true) ∷ (0, true) ∷ []) log = (
      keeps,
      [],
      Some (length (log ++ [])),
      tt,
      refl,
      inr (length (log ++ []), refl, refl, (refl, many)),
      (refl, subst (λ l. IsPrefix v l) (sym same) pre),
    ) in
    subst P (sym kept) (omega arith, refl, goes)

-- where there are as many publications as these, and one that begins with these and with others has been seen, the others begin these
pub all_told : (mine told v w : List Publication) (n : ℕ) → IsPrefix mine v → IsPrefix told v → IsPrefix v w → n ≡ length w → n ≡ length mine → (w ≡ mine) × IsPrefix told mine
all_told mine told v w n m t p now same =
    let all : mine ≡ w = front_is_whole mine w (prefix_trans mine v w m p) (omega (arith, now, same)) in
    (sym all, subst (λ l. IsPrefix told l) (sym all) (prefix_trans told v w t p))

-- where one publication was added to what there was, and there is one more than had been seen, all that there was had been seen
pub all_seen : (v log w : List Publication) (more : List Entry) (n : ℕ) → IsPrefix v log → w ≡ log ++ in_one_step more → 0 < length more → n ≡ length w → n ≡ length v + 1 → w ≡ v ++ in_one_step more
all_seen v log w more n pre is some now one =
    let same : v ≡ log = front_is_whole v log pre (omega (arith, ap length is, steps_grown log more some, now, one)) in
    is ∙ ap (λ l. l ++ in_one_step more) (sym same)
