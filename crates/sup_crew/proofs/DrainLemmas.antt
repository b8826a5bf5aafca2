-- What a drain entered, and what it holds.
use Rattle.std.proofs.Common.{◌≡◌, ℕ, zero, suc, ◌+◌, ◌-◌, ◌<◌, ◌≤◌, List, [], ◌∷◌, ◌++◌, length, length-append, take, get_or, refl, sym, ap, ◌∙◌, arith, append_assoc, subst, Option, Some, None, min, ◌⊎◌, inl, inr}
use Rattle.std.specs.Prelude.{IfSome, IfNone}
use native.Mathlib.Decide.{dec_le}
use mathlib.Core.Logic.{dite}
use Rattle.std.proofs.Math.Seq.{take-append_seam}
use Rattle.std.proofs.lemmas.List.{take_more}
use Rattle.logbook.specs.Pages.{Book}
use Rattle.sup_types.specs.declared.text.Text.{Text}
use Rattle.sup_types.specs.declared.template.Template.{Template}
use Rattle.sup_types.specs.declared.history.Answer.{Answer}
use Rattle.sup_types.specs.declared.history.Operation.{Operation}
use Rattle.sup_types.specs.declared.history.Operation.TheVariants.{Exit}
use Rattle.sup_types.specs.declared.history.Reply.{Reply}
use Rattle.sup_log.specs.Tokens.{Told}
use Rattle.sup_desk.specs.Knowledge.{Knowledge}
use Rattle.sup_desk.specs.Batches.{IsApplied}
use Rattle.sup_desk.specs.BatchLaws.{entered-replies}
use Rattle.sup_inbox.specs.declared.note.Note.{Note}
use Rattle.sup_crew.specs.Exits.{exits}
use Rattle.sup_crew.specs.Drains.{entered_of, notes_of, replies_of, IsEntered}
use Rattle.sup_crew.specs.ExitLaws.{exits-append}

pub entered-is : (taken entered held : List Note) → taken ≡ entered ++ held → entered_of taken held ≡ entered
entered-is taken entered held e =
    let len = ap (λ (l : List Note). length l) e ∙ length-append entered held in
    let n : length taken - length held ≡ length entered = omega (arith, len) in
    (λ i. take (n i) (e i)) ∙ take-append_seam entered held

-- the invariant, where it is known what was entered
pub keeps : (taken entered held : List Note) → taken ≡ entered ++ held → taken ≡ entered_of taken held ++ held
keeps taken entered held e = e ∙ ap (λ l. l ++ held) (sym (entered-is taken entered held e))

-- some of the held notes were entered
pub entered-more : (taken entered held done rest : List Note) → taken ≡ entered ++ held → done ++ rest ≡ held → taken ≡ (entered ++ done) ++ rest
entered-more taken entered held done rest e s = e ∙ ap (λ l. entered ++ l) (sym s) ∙ sym (append_assoc entered done rest)

pub exits-take : (k : ℕ) (xs : List Note) → take k (exits xs) ≡ exits (take k xs)
exits-take zero xs = refl
exits-take (suc k) [] = refl
exits-take (suc k) (n ∷ ns) = ap (λ l. Exit n.number n.reason ∷ l) (exits-take k ns)

pub exits-length : (xs : List Note) → length (exits xs) ≡ length xs
exits-length [] = refl
exits-length (n ∷ ns) = ap suc (exits-length ns)

-- one exit more
pub exits_more : (xs : List Note) (k : ℕ) (n : Note) → k < length xs → n ≡ get_or xs k n → exits (take k xs) ++ Exit n.number n.reason ∷ [] ≡ exits (take (k + 1) xs)
exits_more xs k n low is =
    ap (λ (m : Note). exits (take k xs) ++ Exit m.number m.reason ∷ []) is
    ∙ sym (exits-append (take k xs) (get_or xs k n ∷ []))
    ∙ ap exits (sym (take_more xs k n low))

pub notes_of-append : (ps qs : List (Note × Reply)) → notes_of (ps ++ qs) ≡ notes_of ps ++ notes_of qs
notes_of-append [] qs = refl
notes_of-append (p ∷ ps) qs = ap (λ l. p.0 ∷ l) (notes_of-append ps qs)

pub replies_of-append : (ps qs : List (Note × Reply)) → replies_of (ps ++ qs) ≡ replies_of ps ++ replies_of qs
replies_of-append [] qs = refl
replies_of-append (p ∷ ps) qs = ap (λ l. p.1 ∷ l) (replies_of-append ps qs)

pub notes_of-length : (ps : List (Note × Reply)) → length (notes_of ps) ≡ length ps
notes_of-length [] = refl
notes_of-length (p ∷ ps) = ap suc (notes_of-length ps)

pub replies_of-length : (ps : List (Note × Reply)) → length (replies_of ps) ≡ length ps
replies_of-length [] = refl
replies_of-length (p ∷ ps) = ap suc (replies_of-length ps)

-- the first note with its reply
pub notes-next : (pairs pairs' : List (Note × Reply)) (held held' all : List Note) (note : Note) (reply : Reply) → pairs' ≡ pairs ++ (note, reply) ∷ [] → held ≡ note ∷ held' → notes_of pairs ++ held ≡ all → notes_of pairs' ++ held' ≡ all
notes-next pairs pairs' held held' all note reply p h e =
    ap (λ l. notes_of l ++ held') p
    ∙ ap (λ l. l ++ held') (notes_of-append pairs ((note, reply) ∷ []))
    ∙ append_assoc (notes_of pairs) (note ∷ []) held'
    ∙ ap (λ l. notes_of pairs ++ l) (sym h)
    ∙ e

pub replies-next : (pairs pairs' : List (Note × Reply)) (old rest all : List Reply) (note : Note) (reply : Reply) → pairs' ≡ pairs ++ (note, reply) ∷ [] → old ≡ reply ∷ rest → replies_of pairs ++ old ≡ all → replies_of pairs' ++ rest ≡ all
replies-next pairs pairs' old rest all note reply p h e =
    ap (λ l. replies_of l ++ rest) p
    ∙ ap (λ l. l ++ rest) (replies_of-append pairs ((note, reply) ∷ []))
    ∙ append_assoc (replies_of pairs) (reply ∷ []) rest
    ∙ ap (λ l. replies_of pairs ++ l) (sym h)
    ∙ e

-- each operation has its reply
pub applied-length : (may : Text → ℕ → Answer → Type 0) (template : Template) (press : Book) (before after : Knowledge) (operations : List Operation) (moment : ℕ) (replies : List Reply) (told : Told)
    → IsApplied may template press before operations moment after replies told → length replies ≡ length operations
applied-length may template press before after operations moment replies told h =
    entered-replies may template before.number moment h.front (length before.calls) operations h.entries replies h.entered

-- as many of the held notes as there are replies
pub exits-first : (pairs : List (Note × Reply)) (held rest : List Note) (replies : List Reply) → notes_of pairs ++ rest ≡ held → replies_of pairs ≡ replies → exits (take (length replies) held) ≡ exits (notes_of pairs)
exits-first pairs held rest replies notes same =
    let n : length replies ≡ length (notes_of pairs) = ap (λ (l : List Reply). length l) (sym same) ∙ replies_of-length pairs ∙ sym (notes_of-length pairs) in
    ap exits ((λ i. take (n i) (sym notes i)) ∙ take-append_seam (notes_of pairs) rest)

pub exits-count : (k : ℕ) (xs : List Note) → k ≤ length xs → length (exits (take k xs)) ≡ k
exits-count zero xs h = refl
exits-count (suc k) [] h = absurd (omega (arith, h))
exits-count (suc k) (n ∷ ns) h = ap suc (exits-count k ns (omega (arith, h)))

pub take-le : {A : Type 0} (k : ℕ) (xs : List A) → length (take k xs) ≤ length xs
take-le zero xs = omega arith
take-le (suc k) [] = omega arith
take-le (suc k) (x ∷ xs) = let h = take-le k xs in omega (arith, h)

pub take-within : {A : Type 0} (j k : ℕ) (xs : List A) → j ≤ k → take j (take k xs) ≡ take j xs
take-within zero k xs h = refl
take-within (suc j) zero xs h = absurd (omega (arith, h))
take-within (suc j) (suc k) [] h = refl
take-within (suc j) (suc k) (n ∷ ns) h = ap (λ l. n ∷ l) (take-within j k ns (omega (arith, h)))

-- a fault leaves no more replies than operations
pub part-length : (may : Text → ℕ → Answer → Type 0) (template : Template) (press : Book) (before after : Knowledge) (moment : ℕ) (operations : List Operation) (replies : List Reply) (ticket : Option Told)
    → IfSome ticket (λ t. IsApplied may template press before (take (length replies) operations) moment after replies t × (0 < length replies))
    → IfNone ticket ((replies ≡ []) × (after.calls ≡ before.calls) × (after.number ≡ before.number))
    → length replies ≤ length operations
part-length may template press before after moment operations replies None some none = let e = ap (λ (l : List Reply). length l) none.0 in omega (arith, e)
part-length may template press before after moment operations replies (Some t) some none =
    let n = applied-length may template press before after (take (length replies) operations) moment replies t some.0 in
    let le = take-le (length replies) operations in
    omega (arith, n, le)

-- how many replies there are, where these operations are the exits of the first of the held notes
pub all-replies : (may : Text → ℕ → Answer → Type 0) (template : Template) (press : Book) (before after : Knowledge) (moment : ℕ) (operations : List Operation) (replies : List Reply) (told : Told) (count : ℕ) (held : List Note)
    → IsApplied may template press before operations moment after replies told → operations ≡ exits (take count held) → count ≤ length held → length replies ≡ count
all-replies may template press before after moment operations replies told count held h are low =
    applied-length may template press before after operations moment replies told h ∙ ap (λ (l : List Operation). length l) are ∙ exits-count count held low

pub few-replies : (may : Text → ℕ → Answer → Type 0) (template : Template) (press : Book) (before after : Knowledge) (moment : ℕ) (operations : List Operation) (replies : List Reply) (ticket : Option Told) (count : ℕ) (held : List Note)
    → IfSome ticket (λ t. IsApplied may template press before (take (length replies) operations) moment after replies t × (0 < length replies))
    → IfNone ticket ((replies ≡ []) × (after.calls ≡ before.calls) × (after.number ≡ before.number))
    → operations ≡ exits (take count held) → count ≤ length held → length replies ≤ count
few-replies may template press before after moment operations replies ticket count held some none are low =
    let n = part-length may template press before after moment operations replies ticket some none in
    let m = ap (λ (l : List Operation). length l) are ∙ exits-count count held low in
    omega (arith, n, m)

-- a drain enters no more than the limit, of what is held
pub within : (len count limit : ℕ) → count ≡ min len limit → (count ≤ len) × (count ≤ limit)
within len count limit is = dite (dec_le limit len) (λ h. (omega (arith, h, is), omega (arith, h, is))) (λ h. (omega (arith, h, is), omega (arith, h, is)))

-- the operations that were entered are the exits of the notes that were paired
pub first-exits : (count : ℕ) (operations : List Operation) (pairs : List (Note × Reply)) (held rest : List Note) (replies : List Reply) → operations ≡ exits (take count held) → length replies ≤ count → notes_of pairs ++ rest ≡ held → replies_of pairs ≡ replies
    → take (length replies) operations ≡ exits (notes_of pairs)
first-exits count operations pairs held rest replies are low notes same =
    ap (take (length replies)) are ∙ exits-take (length replies) (take count held) ∙ ap exits (take-within (length replies) count held low) ∙ exits-first pairs held rest replies notes same

pub all-exits : (count : ℕ) (operations : List Operation) (pairs : List (Note × Reply)) (held rest : List Note) (replies : List Reply) → operations ≡ exits (take count held) → length replies ≡ count → notes_of pairs ++ rest ≡ held → replies_of pairs ≡ replies
    → operations ≡ exits (notes_of pairs)
all-exits count operations pairs held rest replies are n notes same = are ∙ ap (λ k. exits (take k held)) (sym n) ∙ exits-first pairs held rest replies notes same

pub entered-all : (may : Text → ℕ → Answer → Type 0) (template : Template) (press : Book) (before after : Knowledge) (moment : ℕ) (pairs : List (Note × Reply)) (operations : List Operation) (replies : List Reply) (told : Told)
    → IsApplied may template press before operations moment after replies told → operations ≡ exits (notes_of pairs) → replies ≡ replies_of pairs
    → IsEntered may template press before after moment pairs (Some told)
entered-all may template press before after moment pairs operations replies told h all same =
    subst (λ (x : List Operation × List Reply). IsApplied may template press before x.0 moment after x.1 told) (λ i. (all i, same i)) h

-- where fewer than the limit were entered, none is held
pub all-or-none : (pairs : List (Note × Reply)) (held rest : List Note) (count limit : ℕ) → count ≡ min (length held) limit → length pairs ≡ count → notes_of pairs ++ rest ≡ held → (length pairs ≡ limit) ⊎ (rest ≡ [])
all-or-none pairs held rest count limit is n notes =
    dite (dec_le limit (length held))
    (λ h. inl (omega (arith, h, is, n)))
    (λ h.
    let len = ap (λ (l : List Note). length l) notes in
    let sum = length-append (notes_of pairs) rest in
    let m = notes_of-length pairs in
    inr (empty rest (omega (arith, h, is, n, len, sum, m))))
  where
    empty : (l : List Note) → length l ≡ 0 → l ≡ []
    empty [] e = refl
    empty (x ∷ l) e = absurd (omega (arith, e))

pub none-paired : (pairs : List (Note × Reply)) → replies_of pairs ≡ [] → pairs ≡ []
none-paired [] e = refl
none-paired (p ∷ ps) e = absurd (cc e)

-- where the room was for some of the operations alone
pub entered-part : (may : Text → ℕ → Answer → Type 0) (template : Template) (press : Book) (before after : Knowledge) (moment : ℕ) (pairs : List (Note × Reply)) (operations : List Operation) (replies : List Reply) (ticket : Option Told)
    → IfSome ticket (λ t. IsApplied may template press before (take (length replies) operations) moment after replies t × (0 < length replies))
    → IfNone ticket ((replies ≡ []) × (after.calls ≡ before.calls) × (after.number ≡ before.number))
    → take (length replies) operations ≡ exits (notes_of pairs) → replies ≡ replies_of pairs
    → IsEntered may template press before after moment pairs ticket
entered-part may template press before after moment pairs operations replies None some none first same = let h = none in (none-paired pairs (sym same ∙ h.0), h.1, h.2)
entered-part may template press before after moment pairs operations replies (Some t) some none first same =
    let h = some in
    subst (λ (x : List Operation × List Reply). IsApplied may template press before x.0 moment after x.1 t) (λ i. (first i, same i)) h.0
