-- Lines that are written word by word.
use Rattle.std.proofs.Common.{◌≡◌, ℕ, ◌+◌, ◌<◌, get_or, take, List, [], ◌∷◌, ◌++◌, length, refl, sym, ap, ◌∙◌, append_assoc, append-nil, arith, map, Result, Ok, Err}
use Rattle.std.specs.Prelude.{OnErr}
use Rattle.std.specs.List.{join_with_byte}
use Rattle.std.proofs.lemmas.List.{take_more, map_push, length-map, length-take-le}
use Rattle.sup_format.specs.declared.write.reply.Field.{Field}
use Rattle.sup_format.specs.Writing.Replies.{Grows, field_word}

-- one word more after at least one
pub join_push : (c : ℕ) (x : List ℕ) (xs : List (List ℕ)) (y : List ℕ) → join_with_byte c ((x ∷ xs) ++ y ∷ []) ≡ join_with_byte c (x ∷ xs) ++ c ∷ y
join_push c x [] y = refl
join_push c x (z ∷ zs) y = ap (λ (l : List ℕ). x ++ c ∷ l) (join_push c z zs y) ∙ sym (append_assoc x (c ∷ join_with_byte c (z ∷ zs)) (c ∷ y))

pub join_push_some : (c : ℕ) (xs : List (List ℕ)) (y : List ℕ) → 0 < length xs → join_with_byte c (xs ++ y ∷ []) ≡ join_with_byte c xs ++ c ∷ y
join_push_some c [] y some = absurd (omega arith)
join_push_some c (x ∷ xs) y some = join_push c x xs y

pub Grows-refl : (xs : List ℕ) → Grows xs xs
Grows-refl xs = ([], sym (append-nil xs))

pub Grows-more : (xs ys zs more : List ℕ) → ys ≡ xs ++ more → Grows ys zs → Grows xs zs
Grows-more xs ys zs more e g = (more ++ g.0, g.1 ∙ ap (λ (l : List ℕ). l ++ g.0) e ∙ append_assoc xs more g.0)

pub grows_on_err : {X E : Type 0} (r : Result X E) (xs ys zs more : List ℕ) → ys ≡ xs ++ more → OnErr r (Grows ys zs) → OnErr r (Grows xs zs)
grows_on_err (Ok x) xs ys zs more e g = tt
grows_on_err (Err x) xs ys zs more e g = Grows-more xs ys zs more e g

-- ---- a line, word by word

grown : (fields : List Field) (i : ℕ) (d : Field) → i < length fields → map field_word (take (i + 1) fields) ≡ map field_word (take i fields) ++ field_word (get_or fields i d) ∷ []
grown fields i d inside = ap (map field_word) (take_more fields i d inside) ∙ map_push field_word (take i fields) (get_or fields i d)

-- the words so far, and one more
pub word_appended : (old mid new : List ℕ) (fields : List Field) (i : ℕ) (d : Field) → 0 < i → i < length fields
    → mid ≡ (old ++ join_with_byte 32 (map field_word (take i fields))) ++ 32 ∷ [] → new ≡ mid ++ field_word (get_or fields i d) → new ≡ old ++ join_with_byte 32 (map field_word (take (i + 1) fields))
word_appended old mid new fields i d later inside so_far last =
    let front = map field_word (take i fields) in
    let joined : join_with_byte 32 (map field_word (take (i + 1) fields)) ≡ join_with_byte 32 front ++ 32 ∷ field_word (get_or fields i d) =
    ap (join_with_byte 32) (grown fields i d inside) ∙ join_push_some 32 front (field_word (get_or fields i d)) (omega (arith, length-map (take i fields) field_word, length-take-le i fields (omega arith))) in
    last ∙ ap (λ (l : List ℕ). l ++ field_word (get_or fields i d)) so_far ∙ append_assoc (old ++ join_with_byte 32 front) (32 ∷ []) (field_word (get_or fields i d)) ∙ append_assoc old (join_with_byte 32 front) (32 ∷ field_word (get_or fields i d)) ∙ ap (λ (l : List ℕ). old ++ l) (sym joined)

pub first_word_appended : (old mid new : List ℕ) (fields : List Field) (i : ℕ) (d : Field) → i ≡ 0 → i < length fields
    → mid ≡ old ++ join_with_byte 32 (map field_word (take i fields)) → new ≡ mid ++ field_word (get_or fields i d) → new ≡ old ++ join_with_byte 32 (map field_word (take (i + 1) fields))
first_word_appended old mid new fields i d first inside so_far last =
    let none : take i fields ≡ [] = ap (λ k. take k fields) first in
    let joined : join_with_byte 32 (map field_word (take (i + 1) fields)) ≡ field_word (get_or fields i d) =
    ap (join_with_byte 32) (grown fields i d inside) ∙ ap (λ (l : List Field). join_with_byte 32 (map field_word l ++ field_word (get_or fields i d) ∷ [])) none in
    let before : mid ≡ old = so_far ∙ ap (λ (l : List Field). old ++ join_with_byte 32 (map field_word l)) none ∙ append-nil old in
    last ∙ ap (λ (l : List ℕ). l ++ field_word (get_or fields i d)) before ∙ ap (λ (l : List ℕ). old ++ l) (sym joined)
