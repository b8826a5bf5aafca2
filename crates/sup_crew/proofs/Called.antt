-- The calls of a handle, as its front grows.
use Rattle.std.proofs.Common.{◌≡◌, ◌≢◌, ℕ, zero, suc, Bool, true, false, cond, ◌==◌, eq-eqb, ne_eqb, ◌+◌, List, [], ◌∷◌, ◌++◌, length, length-append, map, fold, refl, ap, sym, ◌∙◌, subst, arith, append_assoc, append-nil}
use Rattle.std.specs.Prelude.{filter}
use Rattle.std.proofs.lemmas.List.Elements.{filter-append}
use Rattle.std.specs.List.{All}
use native.Mathlib.Decide.{ℕ_discrete}
use mathlib.Core.Logic.{dite}
use mathlib.Core.List.{IsPrefix}
use Rattle.logbook.specs.Pages.{Book}
use Rattle.sup_types.specs.declared.text.Text.{Text}
use Rattle.sup_types.specs.declared.template.Template.{Template}
use Rattle.sup_types.specs.declared.history.Answer.{Answer}
use Rattle.sup_types.specs.declared.history.Operation.{Operation}
use Rattle.sup_types.specs.declared.history.Entry.{Entry}
use Rattle.sup_types.specs.declared.history.Reply.{Reply}
use Rattle.sup_core.specs.Account.{Item, account, item_of, reply_after}
use Rattle.sup_core.specs.AccountLaws.{account-push}
use Rattle.sup_log.specs.Tokens.{Told}
use Rattle.sup_desk.specs.Knowledge.{Knowledge, entries_of}
use Rattle.sup_desk.specs.Batches.{AreEntered, IsApplied}
use Rattle.sup_desk.specs.BatchLaws.{entered-own}
use Rattle.sup_desk.specs.EntryLaws.{entries-append, entries-one, entries-other, entries_prefix}
use Rattle.sup_log.specs.PrefixLaws.{front_is_short}
use Rattle.sup_crew.specs.Calls.{call_of, calls_of, answered}

map-append : {X Y : Type 0} (f : X → Y) (xs ys : List X) → map f (xs ++ ys) ≡ map f xs ++ map f ys
map-append f [] ys = refl
map-append f (x ∷ xs) ys = ap (λ l. f x ∷ l) (map-append f xs ys)

module _ (template : Template) (front : List Entry) (entry : Entry) (number : ℕ) where
  abbrev item : Item
  item = item_of template (account template front) entry

  abbrev is_own : Item → Bool
  is_own i = i.entry.handle == number

  calls-push : calls_of template (front ++ entry ∷ []) number ≡ calls_of template front number ++ map call_of (filter is_own (item ∷ []))
  calls-push =
      ap (λ l. map call_of (filter is_own l)) (account-push template front entry)
      ∙ ap (map call_of) (filter-append is_own (account template front) (item ∷ []))
      ∙ map-append call_of (filter is_own (account template front)) (filter is_own (item ∷ []))

  pub calls-own : entry.handle ≡ number → calls_of template (front ++ entry ∷ []) number ≡ calls_of template front number ++ record { operation = entry.operation; reply = reply_after template front entry } ∷ []
  calls-own e = calls-push ∙ ap (λ b. calls_of template front number ++ map call_of (cond b (item ∷ []) [])) (eq-eqb entry.handle number e)

  pub calls-other : entry.handle ≢ number → calls_of template (front ++ entry ∷ []) number ≡ calls_of template front number
  calls-other e = calls-push ∙ ap (λ b. calls_of template front number ++ map call_of (cond b (item ∷ []) [])) (ne_eqb entry.handle number e) ∙ append-nil (calls_of template front number)

-- what others enter is no call of the handle
stay : (template : Template) (number : ℕ) (front more : List Entry) → length (entries_of (front ++ more) number) ≡ length (entries_of front number) → calls_of template (front ++ more) number ≡ calls_of template front number
stay template number front [] same = ap (λ l. calls_of template l number) (append-nil front)
stay template number front (e ∷ more) same =
    let next : List Entry = front ++ e ∷ [] in
    let all : front ++ e ∷ more ≡ next ++ more = sym (append_assoc front (e ∷ []) more) in
    let whole = ap (λ l. length (entries_of l number)) all in
    let first = front_is_short (entries_of front number) (entries_of next number) (entries_prefix number front next (e ∷ [], refl)) in
    let rest = front_is_short (entries_of next number) (entries_of (next ++ more) number) (entries_prefix number next (next ++ more) (more, refl)) in
    dite (ℕ_discrete e.handle number)
    (λ own. let grown = ap (λ (l : List Entry). length l) (entries-one number front e own) ∙ length-append (entries_of front number) (e ∷ []) in absurd (omega (arith, same, whole, first, rest, grown)))
    (λ apart.
    let kept = ap (λ (l : List Entry). length l) (entries-other number front e apart) in
    ap (λ l. calls_of template l number) all ∙ stay template number next more (omega (arith, same, whole, kept)) ∙ calls-other template front e number apart)

pub calls-stay : (template : Template) (number : ℕ) (front later : List Entry) → IsPrefix front later → entries_of later number ≡ entries_of front number → calls_of template later number ≡ calls_of template front number
calls-stay template number front later p same =
    let e = ap (λ l. calls_of template l number) (sym p.1) in
    let s = ap (λ l. length (entries_of l number)) p.1 in
    let t = ap (λ (l : List Entry). length l) same in
    e ∙ stay template number front p.0 (omega (arith, s, t))

-- the entries have this moment
abbrev pub AreAll : ℕ → List Entry → Type 0
AreAll moment entries = All (λ entry. entry.moment ≡ moment) entries

module _ (may : Text → ℕ → Answer → Type 0) (template : Template) (number moment : ℕ) where
  -- the operations that were entered are calls with their replies
  pub entered-called : (front : List Entry) (serial : ℕ) (os : List Operation) (es : List Entry) (rs : List Reply) → AreEntered may template number moment front serial os es rs
      → calls_of template (front ++ es) number ≡ calls_of template front number ++ answered os rs
  entered-called front serial [] es rs done =
      ap (λ l. calls_of template (front ++ l) number) done.0 ∙ ap (λ l. calls_of template l number) (append-nil front) ∙ sym (append-nil (calls_of template front number))
  entered-called front serial (o ∷ os) es rs (x, xs, ys, entries, replies, first, rest) =
      let reply : Reply = reply_after template front x in
      ap (λ l. calls_of template (front ++ l) number) entries
      ∙ ap (λ l. calls_of template l number) (sym (append_assoc front (x ∷ []) xs))
      ∙ entered-called (front ++ x ∷ []) (serial + 1) os xs ys rest
      ∙ ap (λ l. l ++ answered os ys) (calls-own template front x number first.handle_is)
      ∙ append_assoc (calls_of template front number) (record { operation = x.operation; reply = reply } ∷ []) (answered os ys)
      ∙ ap (λ (p : Operation). calls_of template front number ++ record { operation = p; reply = reply } ∷ answered os ys) first.operation_is
      ∙ ap (λ l. calls_of template front number ++ answered (o ∷ os) l) (sym replies)

  -- they were entered at one moment
  pub entered-at : (front : List Entry) (serial : ℕ) (os : List Operation) (es : List Entry) (rs : List Reply) → AreEntered may template number moment front serial os es rs → AreAll moment es
  entered-at front serial [] es rs done = λ k d within. absurd (omega (arith, within, ap length done.0))
  entered-at front serial (o ∷ os) es rs (x, xs, ys, entries, replies, first, rest) =
      subst (AreAll moment) (sym entries) (one_more x xs first.moment_is (entered-at (front ++ x ∷ []) (serial + 1) os xs ys rest))
    where
      one_more : (x : Entry) (xs : List Entry) → x.moment ≡ moment → AreAll moment xs → AreAll moment (x ∷ xs)
      one_more x xs at all zero d within = at
      one_more x xs at all (suc k) d within = all k d (omega (arith, within))

pub trans : (xs ys zs : List Entry) → IsPrefix xs ys → IsPrefix ys zs → IsPrefix xs zs
trans xs ys zs p q = (p.0 ++ q.0, sym (append_assoc xs p.0 q.0) ∙ ap (λ l. l ++ q.0) p.1 ∙ q.1)

-- a handle has as many calls in a front as it has entries
calls_more : (template : Template) (number : ℕ) (items : List Item) (history : List Entry)
    → length (filter (λ (i : Item). i.entry.handle == number) (fold (λ items entry. items ++ item_of template items entry ∷ []) items history)) ≡ length (filter (λ (i : Item). i.entry.handle == number) items) + length (entries_of history number)
calls_more template number items [] = omega arith
calls_more template number items (e ∷ es) =
    let item : Item = item_of template items e in
    let own : Item → Bool = λ i. i.entry.handle == number in
    let rest = calls_more template number (items ++ item ∷ []) es in
    let push = ap (λ (l : List Item). length l) (filter-append own items (item ∷ [])) ∙ length-append (filter own items) (filter own (item ∷ [])) in
    let one = first (e.handle == number) item e (entries_of es number) in
    omega (arith, rest, push, one)
  where
    first : (b : Bool) (i : Item) (e : Entry) (es : List Entry) → length (cond b (i ∷ []) []) + length es ≡ length (cond b (e ∷ es) es)
    first true i e es = omega arith
    first false i e es = omega arith

length-mapped : {X Y : Type 0} (f : X → Y) (xs : List X) → length (map f xs) ≡ length xs
length-mapped f [] = refl
length-mapped f (x ∷ xs) = ap suc (length-mapped f xs)

pub calls-length : (template : Template) (front : List Entry) (number : ℕ) → length (calls_of template front number) ≡ length (entries_of front number)
calls-length template front number =
    let a = length-mapped call_of (filter (λ (i : Item). i.entry.handle == number) (account template front)) in
    let b = calls_more template number [] front in
    omega (arith, a, b)

-- what a handle entered together are calls with their replies, after those of the front where it entered them
module _ (may : Text → ℕ → Answer → Type 0) (template : Template) (press : Book) (before after : Knowledge) where
  pub applied-since : (operations : List Operation) (moment : ℕ) (replies : List Reply) (now : Told) → (h : IsApplied may template press before operations moment after replies now)
      → calls_of template after.front before.number ≡ calls_of template h.front before.number ++ answered operations replies
  applied-since operations moment replies now h =
      ap (λ (k : Knowledge). calls_of template k.front before.number) h.after_is
      ∙ entered-called may template before.number moment h.front (length before.calls) operations h.entries replies h.entered

  pub applied-own : (operations : List Operation) (moment : ℕ) (replies : List Reply) (now : Told) → IsApplied may template press before operations moment after replies now
      → entries_of after.front after.number ≡ after.calls
  applied-own operations moment replies now h =
      ap (λ (k : Knowledge). entries_of k.front k.number) h.after_is
      ∙ entries-append before.number h.front h.entries
      ∙ ap (λ l. l ++ entries_of h.entries before.number) h.met.own
      ∙ ap (λ l. before.calls ++ l) (entered-own may template before.number moment h.front (length before.calls) operations h.entries replies h.entered)
      ∙ sym (ap (λ (k : Knowledge). k.calls) h.after_is)
