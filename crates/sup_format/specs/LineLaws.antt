-- Where a text is cut into lines, and how many there are.
use Rattle.std.proofs.Common.{◌≡◌, ℕ, ◌+◌, ◌-◌, ◌<◌, ◌≤◌, ◌==◌, true, false, cond, List, [], ◌∷◌, ◌++◌, length, get_or, take, refl, sym, ap, ◌∙◌, append-nil, arith}
use Rattle.std.specs.List.{onto_first}
use Rattle.std.proofs.lemmas.List.{length-append, take_all, take_more, get_or-append_right}
use Rattle.std.proofs.lemmas.List.Elements.{All-head, All-tail}
use Rattle.sup_format.specs.Reading.Texts.{lines_of, IsFull}
use Rattle.sup_format.specs.Reading.Words.{Lacks, IsSplit}

pub lines_at : (xs ys : List ℕ) → Lacks 10 xs → lines_of (xs ++ 10 ∷ ys) ≡ xs ∷ lines_of ys
lines_at [] ys lacks = refl
lines_at (x ∷ xs) ys lacks =
    rw (All-head (λ b. (b == 10) ≡ false) x xs lacks) (ap (onto_first x) (lines_at xs ys (All-tail (λ b. (b == 10) ≡ false) x xs lacks)))

pub lines-split : (text line rest : List ℕ) → IsSplit 10 text line rest → lines_of text ≡ line ∷ lines_of rest
lines-split text line rest split = rw split.parts (lines_at line rest split.first)

lines_one : (x : ℕ) (xs : List ℕ) → Lacks 10 (x ∷ xs) → lines_of (x ∷ xs) ≡ (x ∷ xs) ∷ []
lines_one x [] lacks = rw (All-head (λ b. (b == 10) ≡ false) x [] lacks) refl
lines_one x (y ∷ ys) lacks =
    rw (All-head (λ b. (b == 10) ≡ false) x (y ∷ ys) lacks) (ap (onto_first x) (lines_one y ys (All-tail (λ b. (b == 10) ≡ false) x (y ∷ ys) lacks)))

pub lines-one : (text : List ℕ) → 0 < length text → Lacks 10 text → lines_of text ≡ text ∷ []
lines-one [] some lacks = absurd (omega arith)
lines-one (x ∷ xs) some lacks = lines_one x xs lacks

pub lines-none : (text : List ℕ) → length text ≡ 0 → lines_of text ≡ []
lines-none [] none = refl
lines-none (x ∷ xs) none = absurd (omega arith)

-- ---- lines of a text that continues

onto_more : (b : ℕ) (xs ys : List (List ℕ)) → 0 < length xs → onto_first b (xs ++ ys) ≡ onto_first b xs ++ ys
onto_more b [] ys some = absurd (omega arith)
onto_more b (x ∷ xs) ys some = refl

some_first : (b : ℕ) (lines : List (List ℕ)) → 0 < length (onto_first b lines)
some_first b [] = omega arith
some_first b (line ∷ lines) = omega arith

pub some_lines : (b : ℕ) (bs : List ℕ) → 0 < length (lines_of (b ∷ bs))
some_lines b bs = elim (b == 10) as (λ v. 0 < length (cond v ([] ∷ lines_of bs) (onto_first b (lines_of bs)))) [ true ↦ omega arith | false ↦ some_first b (lines_of bs) ]

pub some_lines_snoc : (xs : List ℕ) → 0 < length (lines_of (xs ++ 10 ∷ []))
some_lines_snoc [] = some_lines 10 []
some_lines_snoc (x ∷ xs) = some_lines x (xs ++ 10 ∷ [])

lines_snoc : (xs ys : List ℕ) → lines_of ((xs ++ 10 ∷ []) ++ ys) ≡ lines_of (xs ++ 10 ∷ []) ++ lines_of ys
lines_snoc [] ys = refl
lines_snoc (x ∷ xs) ys =
    let more = lines_snoc xs ys in
    let some = some_lines_snoc xs in
    elim (x == 10) as (λ v. cond v ([] ∷ lines_of ((xs ++ 10 ∷ []) ++ ys)) (onto_first x (lines_of ((xs ++ 10 ∷ []) ++ ys))) ≡ cond v ([] ∷ lines_of (xs ++ 10 ∷ [])) (onto_first x (lines_of (xs ++ 10 ∷ []))) ++ lines_of ys) [
      | true ↦ ap (λ (l : List (List ℕ)). [] ∷ l) more
      | false ↦ ap (onto_first x) more ∙ onto_more x (lines_of (xs ++ 10 ∷ [])) (lines_of ys) some
    ]

full_is : (xs : List ℕ) → 0 < length xs → IsFull xs → xs ≡ take (length xs - 1) xs ++ 10 ∷ []
full_is xs some full =
    let n = length xs - 1 in
    let all : take (n + 1) xs ≡ xs = take_all (n + 1) xs (omega arith) in
    let last : get_or xs n 0 ≡ 10 = full some in
    sym all ∙ take_more xs n 0 (omega arith) ∙ ap (λ b. take n xs ++ b ∷ []) last

lines_full : (xs ys : List ℕ) → 0 < length xs → IsFull xs → lines_of (xs ++ ys) ≡ lines_of xs ++ lines_of ys
lines_full xs ys some full = let e = full_is xs some full in rw (ap (λ (l : List ℕ). lines_of (l ++ ys)) e, ap lines_of e) (lines_snoc (take (length xs - 1) xs) ys)

-- after a text that is empty or ends with a line feed the lines continue
pub lines-append : (xs ys : List ℕ) → IsFull xs → lines_of (xs ++ ys) ≡ lines_of xs ++ lines_of ys
lines-append [] ys full = refl
lines-append (x ∷ xs) ys full = lines_full (x ∷ xs) ys (omega arith) full

pub full-append : (xs ys : List ℕ) → 0 < length ys → IsFull ys → IsFull (xs ++ ys)
full-append xs ys some full = λ _.
    let len = length-append xs ys in
    let index : length (xs ++ ys) - 1 - length xs ≡ length ys - 1 = omega (arith, len) in
    get_or-append_right xs ys (length xs) (length (xs ++ ys) - 1) 0 refl (omega (arith, len)) ∙ ap (λ i. get_or ys i 0) index ∙ full some

full_on : (xs ys : List ℕ) → IsFull xs → IsFull ys → IsFull (xs ++ ys)
full_on xs [] f g = rw (append-nil xs) f
full_on xs (y ∷ ys) f g = full-append xs (y ∷ ys) (omega arith) g

-- two texts that are empty or end with a line feed
pub full-both : (xs ys : List ℕ) → IsFull xs → IsFull ys → IsFull (xs ++ ys)
full-both xs ys f g = full_on xs ys f g

-- what ends such a text is one as well
pub full-right : (xs ys : List ℕ) → IsFull (xs ++ ys) → IsFull ys
full-right xs ys full = λ some.
    let len = length-append xs ys in
    let index : length (xs ++ ys) - 1 - length xs ≡ length ys - 1 = omega (arith, len) in
    ap (λ i. get_or ys i 0) (sym index) ∙ sym (get_or-append_right xs ys (length xs) (length (xs ++ ys) - 1) 0 refl (omega (arith, len))) ∙ full (omega (arith, len))

-- ---- how many

-- a text has no more lines than bytes
onto_few : (b n : ℕ) (lines : List (List ℕ)) → length lines ≤ n → length (onto_first b lines) ≤ n + 1
onto_few b n [] few = omega arith
onto_few b n (line ∷ lines) few = omega (arith, few)

pub few_lines : (bytes : List ℕ) → length (lines_of bytes) ≤ length bytes
few_lines [] = omega arith
few_lines (b ∷ bs) =
    let few = few_lines bs in
    let onto = onto_few b (length bs) (lines_of bs) few in
    elim (b == 10) as (λ v. length (cond v ([] ∷ lines_of bs) (onto_first b (lines_of bs))) ≤ length (b ∷ bs)) [ true ↦ omega (arith, few) | false ↦ omega (arith, onto) ]
