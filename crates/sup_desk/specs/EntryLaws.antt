-- The entries of one handle in longer and longer fronts.
use Rattle.std.proofs.Common.{◌≡◌, ℕ, Bool, true, false, cond, ◌==◌, ◌+◌, ◌≤◌, List, [], ◌∷◌, ◌++◌, length, refl, ap, sym, ◌∙◌, subst, arith, ◌⊎◌, ⊎_elim}
use Rattle.std.proofs.lemmas.List.Elements.{filter-append}
use Rattle.std.proofs.lemmas.List.{append-nil}
use Rattle.std.proofs.lemmas.Bool.Decides.{nat_tests}
use mathlib.Core.List.{IsPrefix}
use Rattle.sup_types.specs.declared.history.Entry.{Entry}
use Rattle.sup_log.specs.PrefixLaws.{front_is_short, front_is_whole}
use Rattle.sup_desk.specs.Knowledge.{entries_of}

pub entries-append : (h : ℕ) (xs ys : List Entry) → entries_of (xs ++ ys) h ≡ entries_of xs h ++ entries_of ys h
entries-append h xs ys = filter-append (λ e. e.handle == h) xs ys

pub entries_prefix : (h : ℕ) (xs ys : List Entry) → IsPrefix xs ys → IsPrefix (entries_of xs h) (entries_of ys h)
entries_prefix h xs ys p = (entries_of p.0 h, sym (entries-append h xs p.0) ∙ ap (λ l. entries_of l h) p.1)

one_own : (h : ℕ) (e : Entry) (b : Bool) → (e.handle == h) ≡ b → e.handle ≡ h → cond b (e ∷ []) [] ≡ e ∷ []
one_own h e true is same = refl
one_own h e false is same = absurd (grind (arith, nat_tests))

pub entries-own : (h : ℕ) (e : Entry) → e.handle ≡ h → entries_of (e ∷ []) h ≡ e ∷ []
entries-own h e same = one_own h e (e.handle == h) refl same

pub entries-one : (h : ℕ) (xs : List Entry) (e : Entry) → e.handle ≡ h → entries_of (xs ++ e ∷ []) h ≡ entries_of xs h ++ e ∷ []
entries-one h xs e same = entries-append h xs (e ∷ []) ∙ ap (λ l. entries_of xs h ++ l) (entries-own h e same)

none_own : (h : ℕ) (e : Entry) (b : Bool) → (e.handle == h) ≡ b → ¬ (e.handle ≡ h) → cond b (e ∷ []) [] ≡ []
none_own h e true is apart = absurd (apart (grind (arith, nat_tests)))
none_own h e false is apart = refl

pub entries-other : (h : ℕ) (xs : List Entry) (e : Entry) → ¬ (e.handle ≡ h) → entries_of (xs ++ e ∷ []) h ≡ entries_of xs h
entries-other h xs e apart = entries-append h xs (e ∷ []) ∙ ap (λ l. entries_of xs h ++ l) (none_own h e (e.handle == h) refl apart) ∙ append-nil (entries_of xs h)

le_more : (x : Entry) (ys : List Entry) (b : Bool) (n : ℕ) → length ys ≤ n → length (cond b (x ∷ ys) ys) ≤ n + 1
le_more x ys true n le = omega arith
le_more x ys false n le = omega arith

pub entries_le : (h : ℕ) (xs : List Entry) → length (entries_of xs h) ≤ length xs
entries_le h [] = omega arith
entries_le h (x ∷ xs) = omega (arith, le_more x (entries_of xs h) (x.handle == h) (length xs) (entries_le h xs))

-- a front that was replaced by a longer one is that one
pub adopted : {A : Type 0} (old told new : List A) → IsPrefix old told → IsPrefix told new → (new ≡ old) ⊎ (new ≡ told) → new ≡ told
adopted old told new grows held cases =
    ⊎_elim
    (λ (same : new ≡ old). same ∙ sym (front_is_whole told old (subst (λ l. IsPrefix told l) same held) (front_is_short old told grows)))
    (λ (same : new ≡ told). same) cases
