-- Handles that have seen a whole history, one after another.
use Rattle.std.proofs.Common.{◌≡◌, ◌≢◌, ℕ, ◌==◌, ◌+◌, ◌<◌, List, [], ◌∷◌, ◌++◌, length, length-append, get_or, set, refl, sym, ◌∙◌, ap, subst, arith, length-set, Bool, true, false, get_or-set_same, get_or-set_other}
use Rattle.std.proofs.lemmas.List.{get_or_default, get_or_append_left}
use Rattle.std.proofs.Math.Seq.{get_or-append_seam}
use Rattle.std.proofs.lemmas.Bool.Decides.{nat_tests}
use Rattle.sup_types.specs.declared.history.Entry.{Entry}
use base.Growing.{prefix_refl, prefix_trans}
use Rattle.sup_desk.specs.Knowledge.{Knowledge, entries_of}
use Rattle.sup_desk.specs.Results.{HasSeenMore}
use Rattle.sup_desk.specs.Audits.{AreNumbered, IsGrown, AreGrown, HasSeenAll, HaveSeenAll}

grown_trans : (x y z : Knowledge) → IsGrown x y → IsGrown y z → IsGrown x z
grown_trans x y z p q = record { editions = prefix_trans x.editions y.editions z.editions p.editions q.editions; front = prefix_trans x.front y.front z.front p.front q.front; calls = q.calls ∙ p.calls; number = q.number ∙ p.number }

pub grown_self : (handles : List Knowledge) → AreGrown handles handles
grown_self handles = record { len = refl; each = λ k d within. record { editions = prefix_refl (get_or handles k d).editions; front = prefix_refl (get_or handles k d).front; calls = refl; number = refl } }

-- the handle at place i has grown
pub grown_set : (old now : List Knowledge) (i : ℕ) (was is : Knowledge) → AreGrown old now → i < length now → IsGrown (get_or now i was) is
    → AreGrown old (set now i is)
grown_set old now i was is grown within more = record {
  len = length-set now i is ∙ grown.len;
  each = λ k d below. at k d below (k == i) refl;
}
  where
    at : (k : ℕ) (d : Knowledge) → k < length old → (b : Bool) → (k == i) ≡ b → IsGrown (get_or old k d) (get_or (set now i is) k d)
    at k d below true test =
        let same : k ≡ i = grind (arith, nat_tests) in
        let there : get_or now k d ≡ get_or now i was = (λ j. get_or now (same j) d) ∙ get_or_default now i d was within in
        let new : get_or (set now i is) k d ≡ is = (λ j. get_or (set now i is) (same j) d) ∙ get_or-set_same now i is d within in
        subst (λ (h : Knowledge). IsGrown (get_or old k d) h) (sym new)
        (grown_trans (get_or old k d) (get_or now i was) is (subst (λ (h : Knowledge). IsGrown (get_or old k d) h) there (grown.each k d below)) more)
    at k d below false test =
        let differ : k ≢ i = λ same. grind (arith, nat_tests) in
        subst (λ (h : Knowledge). IsGrown (get_or old k d) h) (sym (get_or-set_other now i k is d differ)) (grown.each k d below)

-- the handle at place i has seen all, after those before it
pub seen_set : (front : List Entry) (now : List Knowledge) (i : ℕ) (is : Knowledge) → HaveSeenAll front now i → i < length now → HasSeenAll front is
    → HaveSeenAll front (set now i is) (i + 1)
seen_set front now i is seen within mine = λ k d below. at k d below (k == i) refl
  where
    at : (k : ℕ) (d : Knowledge) → k < i + 1 → (b : Bool) → (k == i) ≡ b → HasSeenAll front (get_or (set now i is) k d)
    at k d below true test =
        let same : k ≡ i = grind (arith, nat_tests) in
        let new : get_or (set now i is) k d ≡ is = (λ j. get_or (set now i is) (same j) d) ∙ get_or-set_same now i is d within in
        subst (λ (h : Knowledge). HasSeenAll front h) (sym new) mine
    at k d below false test =
        let differ : k ≢ i = λ same. grind (arith, nat_tests) in
        let low : k < i = omega (arith, differ) in
        subst (λ (h : Knowledge). HasSeenAll front h) (sym (get_or-set_other now i k is d differ)) (seen k d low)

-- what holds of each handle by its place holds after one more, if it holds of that one
pub each_more : (P : ℕ → Knowledge → Type 0) (handles : List Knowledge) (one : Knowledge) → ((k : ℕ) (d : Knowledge) → k < length handles → P k (get_or handles k d))
    → P (length handles) one → (k : ℕ) (d : Knowledge) → k < length (handles ++ one ∷ []) → P k (get_or (handles ++ one ∷ []) k d)
each_more P handles one each its k d within = at (k == length handles) refl
  where
    at : (b : Bool) → (k == length handles) ≡ b → P k (get_or (handles ++ one ∷ []) k d)
    at true test =
        let same : length handles ≡ k = grind (arith, nat_tests) in
        subst (λ (n : ℕ). P n (get_or (handles ++ one ∷ []) n d)) same (subst (P (length handles)) (sym (get_or-append_seam handles one [] d)) its)
    at false test =
        let differ : k ≢ length handles = λ same. grind (arith, nat_tests) in
        let before : k < length handles = omega (arith, within, length-append handles (one ∷ []), differ) in
        subst (P k) (sym (get_or_append_left handles (one ∷ []) d k before)) (each k d before)

-- the handles have their numbers still, once one of them has changed and kept its own
pub numbered_set : (now : List Knowledge) (i : ℕ) (was is : Knowledge) → AreNumbered now → i < length now → is.number ≡ i + 1 → AreNumbered (set now i is)
numbered_set now i was is numbered within its = λ k d below. at k d below (k == i) refl
  where
    at : (k : ℕ) (d : Knowledge) → k < length (set now i is) → (b : Bool) → (k == i) ≡ b → (get_or (set now i is) k d).number ≡ k + 1
    at k d below true test =
        let same : k ≡ i = grind (arith, nat_tests) in
        let new : get_or (set now i is) k d ≡ is = (λ j. get_or (set now i is) (same j) d) ∙ get_or-set_same now i is d within in
        ap (λ (h : Knowledge). h.number) new ∙ its ∙ ap (λ (n : ℕ). n + 1) (sym same)
    at k d below false test =
        let differ : k ≢ i = λ same. grind (arith, nat_tests) in
        ap (λ (h : Knowledge). h.number) (get_or-set_other now i k is d differ) ∙ numbered k d (omega (arith, length-set now i is, below))

-- and once they have seen more
pub numbered_grown : (old now : List Knowledge) → AreNumbered old → AreGrown old now → AreNumbered now
numbered_grown old now numbered grown = λ k d below.
    let within : k < length old = omega (arith, grown.len, below) in
    (grown.each k d within).number ∙ numbered k d within

-- a handle that was given a ticket has seen more
pub told_grown : (old now : Knowledge) → HasSeenMore old now → (now.calls ≡ old.calls) × (now.number ≡ old.number) → IsGrown old now
told_grown old now more same = record { editions = more.editions; front = more.front; calls = same.0; number = same.1 }

-- and just this history
pub told_all : (history : List Entry) (now : Knowledge) → now.front ≡ history → entries_of now.front now.number ≡ now.calls → HasSeenAll history now
told_all history now is own = record { front = is; calls = ap (λ (l : List Entry). entries_of l now.number) (sym is) ∙ own }
