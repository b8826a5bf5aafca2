-- One start more of a batch.
use Rattle.std.proofs.Common.{◌≡◌, ℕ, zero, suc, ◌+◌, ◌<◌, ◌≤◌, get_or, Option, Some, None, List, [], ◌∷◌, ◌++◌, length, take, drop, subst, refl, ap, sym, ◌∙◌, append-nil, append_assoc, length-append, arith}
use Rattle.std.specs.Prelude.{IfSome, IfNone}
use base.Growing.{prefix_trans}
use mathlib.Core.List.{IsPrefix}
use Rattle.logbook.specs.Pages.{Book}
use Rattle.sup_types.specs.declared.text.Text.{Text}
use Rattle.sup_types.specs.declared.template.Template.{Template}
use Rattle.sup_types.specs.declared.history.Answer.{Answer}
use Rattle.sup_types.specs.declared.history.Operation.{Operation}
use Rattle.sup_types.specs.declared.history.Entry.{Entry}
use Rattle.sup_types.specs.declared.history.Reply.{Reply}
use Rattle.sup_log.specs.Tokens.{Told}
use Rattle.sup_desk.specs.Knowledge.{Knowledge}
use Rattle.sup_desk.specs.Batches.{IsApplied}
use Rattle.sup_desk.specs.BatchLaws.{next_of}
use Rattle.sup_desk.specs.declared.faults.UpdateFault.TheVariants.{Journal}
use Rattle.sup_desk.specs.declared.journal.JournalFault.{JournalFault}
use Rattle.sup_exits.specs.declared.exit.Child.{Child}
use Rattle.sup_live.specs.declared.started.Begun.{Begun}
use Rattle.sup_live.specs.declared.started.StartedAll.{StartedAll}
use Rattle.sup_live.specs.Batches.{AreGiven, IsStartedAll, replies_of, start_of, starts_of}
use Rattle.sup_live.specs.ReplyLaws.{each_of, seen_more, applied}
use Rattle.sup_live.specs.Starts.{child_started, given_back, started_as, HasStarted}

starts_of-append : {O : Type 0} (xs ys : List (Text × O)) → starts_of (xs ++ ys) ≡ starts_of xs ++ starts_of ys
starts_of-append [] ys = refl
starts_of-append (x ∷ xs) ys = ap (λ l. start_of x ∷ l) (starts_of-append xs ys)

-- one start more is listed
pub listed_more : {O : Type 0} (xs : List (Text × O)) (k : ℕ) (x : Text × O) → k < length xs → x ≡ get_or xs k x → starts_of (take k xs) ++ start_of x ∷ [] ≡ starts_of (take (k + 1) xs)
listed_more xs k x low is = sym (starts_of-append (take k xs) (x ∷ [])) ∙ ap starts_of (sym (next_of k xs x low is))

pub starts_length : {O : Type 0} (xs : List (Text × O)) → length (starts_of xs) ≡ length xs
starts_length [] = refl
starts_length (x ∷ xs) = ap suc (starts_length xs)

take_all : (k : ℕ) (os : List Operation) → k ≡ length os → os ≡ take k os
take_all zero [] e = refl
take_all zero (o ∷ os) e = absurd (omega (arith, e))
take_all (suc k) [] e = absurd (omega (arith, e))
take_all (suc k) (o ∷ os) e = ap (λ l. o ∷ l) (take_all k os (omega (arith, e)))

-- all starts are the first of them
pub all_starts : {O : Type 0} (list : List (Text × O)) (operations : List Operation) (k : ℕ) → operations ≡ starts_of list → k ≡ length operations → operations ≡ take k (starts_of list)
all_starts list operations k are n = take_all k operations n ∙ ap (take k) are

each_none : (os : List Operation) → each_of child_started os [] ≡ []
each_none [] = refl
each_none (o ∷ os) = refl

empty : {A : Type 0} (xs : List A) → length xs ≡ 0 → xs ≡ []
empty [] e = refl
empty (x ∷ xs) e = absurd (omega (arith, e))

-- at the end all are made
pub made_all : {O : Type 0} (made all : List Child) (list : List (Text × O)) (replies : List Reply) → length replies ≡ 0 → made ++ each_of child_started (starts_of list) replies ≡ all → made ≡ all
made_all made all list replies none is =
    sym (append-nil made) ∙ ap (λ l. made ++ l) (sym (each_none (starts_of list))) ∙ ap (λ l. made ++ each_of child_started (starts_of list) l) (sym (empty replies none)) ∙ is

each_take : (os : List Operation) (rs : List Reply) → each_of child_started (take (length rs) os) rs ≡ each_of child_started os rs
each_take os [] = sym (each_none os)
each_take [] (r ∷ rs) = refl
each_take (o ∷ os) (r ∷ rs) = ap (λ l. child_started o r ++ l) (each_take os rs)

module _ (since : ℕ) (may : Text → ℕ → Answer → Type 0) (template : Template) (press : Book) (before after : Knowledge) where
  -- a batch is among the calls
  pub called_all : (operations : List Operation) (moment : ℕ) (replies : List Reply) (ticket : Option Told) → since ≤ length before.calls
      → IfSome ticket (λ t. IsApplied may template press before operations moment after replies t)
      → IfNone ticket ((replies ≡ []) × (after.calls ≡ before.calls) × (after.number ≡ before.number)) → since ≤ length after.calls
  called_all operations moment replies None low some none = let same = ap length none.1 in omega (arith, low, same)
  called_all operations moment replies (Some t) low u none =
      let grown = ap (λ (k : Knowledge). length k.calls) u.after_is ∙ length-append before.calls u.entries in omega (arith, low, grown)

  -- and its children are among those that were started
  pub started_all : {O : Type 0} (made : List Child) (list : List (Text × O)) (moment : ℕ) (replies : List Reply) (ticket : Option Told) → since ≤ length before.calls → HasStarted template since before made → IsPrefix before.front after.front
      → IfSome ticket (λ t. IsApplied may template press before (take (length replies) (starts_of list)) moment after replies t)
      → IfNone ticket ((replies ≡ []) × (after.calls ≡ before.calls) × (after.number ≡ before.number))
      → HasStarted template since after (made ++ each_of child_started (starts_of list) replies)
  started_all made list moment replies None low h front some none =
      subst (HasStarted template since after) (sym (append-nil made) ∙ ap (λ l. made ++ l) (sym (each_none (starts_of list)) ∙ ap (each_of child_started (starts_of list)) (sym none.0)))
      (seen_more child_started since template before after made h front none.1 none.2)
  started_all made list moment replies (Some t) low h front u none =
      subst (HasStarted template since after) (ap (λ l. made ++ l) (each_take (starts_of list) replies))
      (applied child_started since may template press before made (take (length replies) (starts_of list)) moment after replies t low h u)

-- its child is among those that were made
pub made_more : {O : Type 0} (made now all : List Child) (list rest : List (Text × O)) (c : Text × O) (replies later : List Reply) (r : Reply)
    → list ≡ c ∷ rest → replies ≡ r ∷ later → now ≡ made ++ child_started (start_of c) r
    → made ++ each_of child_started (starts_of list) replies ≡ all → now ++ each_of child_started (starts_of rest) later ≡ all
made_more made now all list rest c replies later r is next grown before =
    ap (λ l. l ++ each_of child_started (starts_of rest) later) grown
    ∙ append_assoc made (child_started (start_of c) r) (each_of child_started (starts_of rest) later)
    ∙ (λ i. made ++ each_of child_started (starts_of (sym is i)) (sym next i))
    ∙ before

drop_one : {O : Type 0} (cs : List (Text × O)) (n : ℕ) (c : Text × O) (rest : List (Text × O)) → c ∷ rest ≡ drop n cs → rest ≡ drop (suc n) cs
drop_one [] zero c rest is = let e = ap length is in absurd (omega (arith, e))
drop_one (x ∷ xs) zero c rest is = ap (drop 1) is
drop_one [] (suc n) c rest is = let e = ap length is in absurd (omega (arith, e))
drop_one (x ∷ xs) (suc n) c rest is = drop_one xs n c rest is

module _ {M O : Type 0} where
  replies-append : (bs cs : List (Begun M O)) → replies_of (bs ++ cs) ≡ replies_of bs ++ replies_of cs
  replies-append [] cs = refl
  replies-append (b ∷ bs) cs = ap (λ l. b.reply ∷ l) (replies-append bs cs)

  -- its reply is listed
  pub replies_more : (bs now : List (Begun M O)) (b : Begun M O) (replies later all : List Reply) → now ≡ bs ++ b ∷ [] → replies ≡ b.reply ∷ later → replies_of bs ++ replies ≡ all → replies_of now ++ later ≡ all
  replies_more bs now b replies later all is next before =
      ap (λ l. l ++ later) (ap replies_of is ∙ replies-append bs (b ∷ []))
      ∙ append_assoc (replies_of bs) (b.reply ∷ []) later ∙ ap (λ l. replies_of bs ++ l) (sym next) ∙ before

  given_one : (cs : List (Text × O)) (bs : List (Begun M O)) (c : Text × O) (rest : List (Text × O)) (b : Begun M O) → c ∷ rest ≡ drop (length bs) cs
      → IfSome b.child (λ address. started_as b.reply ≡ address.number ∷ []) → b.own ≡ given_back c.1 b.reply → AreGiven cs bs → AreGiven cs (bs ++ b ∷ [])
  given_one [] [] c rest b is child own given = let e = ap length is in absurd (omega (arith, e))
  given_one (x ∷ xs) [] c rest b is child own given = (child, own ∙ ap (λ (y : Text × O). given_back y.1 b.reply) (ap (λ l. get_or l 0 c) is), given)
  given_one [] (y ∷ ys) c rest b is child own given = given
  given_one (x ∷ xs) (y ∷ ys) c rest b is child own given = (given.0, given.1, given_one xs ys c rest b is child own given.2)

  -- its address is that of its child, and it gives back what the child was to own
  pub given_more : (cs : List (Text × O)) (bs now : List (Begun M O)) (c : Text × O) (list rest : List (Text × O)) (b : Begun M O) → now ≡ bs ++ b ∷ [] → list ≡ c ∷ rest → list ≡ drop (length bs) cs
      → IfSome b.child (λ address. started_as b.reply ≡ address.number ∷ []) → b.own ≡ given_back c.1 b.reply → AreGiven cs bs → AreGiven cs now
  given_more cs bs now c list rest b is next at child own given = subst (AreGiven cs) (sym is) (given_one cs bs c rest b (sym next ∙ at) child own given)

  -- and the others stay in the list
  pub rest_more : (cs : List (Text × O)) (bs now : List (Begun M O)) (c : Text × O) (list rest : List (Text × O)) (b : Begun M O) → now ≡ bs ++ b ∷ [] → list ≡ c ∷ rest → list ≡ drop (length bs) cs → rest ≡ drop (length now) cs
  rest_more cs bs now c list rest b is next at =
      let e : length now ≡ length bs + 1 = ap (λ (l : List (Begun M O)). length l) is ∙ length-append bs (b ∷ []) in
      let n : suc (length bs) ≡ length now = omega (arith, e) in
      subst (λ k. rest ≡ drop k cs) n (drop_one cs (length bs) c rest (sym next ∙ at))

-- ---- the whole of it

map_some : {A : Type 0} (o : Option A) (P Q : A → Type 0) → ((a : A) → P a → Q a) → IfSome o P → IfSome o Q
map_some None P Q f h = h
map_some (Some a) P Q f h = f a h

map_none : {A : Type 0} (o : Option A) (P Q : Type 0) → (P → Q) → IfNone o P → IfNone o Q
map_none None P Q f h = f h
map_none (Some a) P Q f h = h

drop_all : {A : Type 0} (n : ℕ) (xs : List A) → n ≡ length xs → drop n xs ≡ []
drop_all zero [] e = refl
drop_all zero (x ∷ xs) e = absurd (omega (arith, e))
drop_all (suc n) [] e = refl
drop_all (suc n) (x ∷ xs) e = drop_all n xs (omega (arith, e))

module _ {M O : Type 0} where
  length_replies : (bs : List (Begun M O)) → length (replies_of bs) ≡ length bs
  length_replies [] = refl
  length_replies (b ∷ bs) = ap suc (length_replies bs)

  none_of : (bs : List (Begun M O)) (replies : List Reply) → replies_of bs ≡ replies → replies ≡ [] → bs ≡ []
  none_of [] replies is none = refl
  none_of (b ∷ bs) replies is none = let e = ap (λ (l : List Reply). length l) (is ∙ none) in absurd (omega (arith, e))

  pub whole : (may : Text → ℕ → Answer → Type 0) (may_fail : JournalFault → Type 0) (template : Template) (press : Book) (before mid after : Knowledge) (list rest : List (Text × O)) (moment : ℕ) (replies : List Reply) (result : StartedAll M O)
      → IfSome result.ticket (λ t. IsApplied may template press before (take (length replies) (starts_of list)) moment mid replies t)
      → IfNone result.ticket ((replies ≡ []) × (mid.calls ≡ before.calls) × (mid.number ≡ before.number))
      → IfNone result.fault (length replies ≡ length list)
      → IsPrefix before.front mid.front
      → IfSome result.fault (λ fault. (f : JournalFault) → fault ≡ Journal f → (replies ≡ []) × may_fail f)
      → replies_of result.started.items ≡ replies
      → AreGiven list result.started.items
      → rest ≡ drop (length result.started.items) list
      → IsPrefix mid.front after.front
      → (after.calls ≡ mid.calls) × (after.number ≡ mid.number)
      → IsStartedAll may may_fail template press before list after rest result
  whole may may_fail template press before mid after list rest moment replies result some none all front broke is given rest_is more same =
      let n : length replies ≡ length result.started.items = ap (λ (l : List Reply). length l) (sym is) ∙ length_replies result.started.items in
      record {
        entered = map_some result.ticket (λ t. IsApplied may template press before (take (length replies) (starts_of list)) moment mid replies t)
            (λ t. (m : ℕ) × IsApplied may template press before (take (length result.started.items) (starts_of list)) m (record { number = after.number; editions = t.editions; front = t.front; calls = after.calls }) (replies_of result.started.items) t)
            (λ t u. (
              moment,
              subst (λ (x : Knowledge × (List Reply × ℕ)). IsApplied may template press before (take x.1.1 (starts_of list)) moment x.0 x.1.0 t)
                  (λ i. (record { number = sym same.1 i; editions = (sym u.told_is i).editions; front = (sym u.told_is i).front; calls = sym same.0 i }, (sym is i, n i))) u,
            )) some;
        seen = map_some result.ticket (λ t. IsApplied may template press before (take (length replies) (starts_of list)) moment mid replies t) (λ t. IsPrefix t.front after.front)
            (λ t u. subst (λ (f : List Entry). IsPrefix f after.front) (λ i. (sym u.told_is i).front) more) some;
        nothing = map_none result.ticket ((replies ≡ []) × (mid.calls ≡ before.calls) × (mid.number ≡ before.number)) ((result.started.items ≡ []) × (after.calls ≡ before.calls) × (after.number ≡ before.number))
            (λ h. (none_of result.started.items replies is h.0, same.0 ∙ h.1, same.1 ∙ h.2)) none;
        given = given;
        rest_is = rest_is;
        all = map_none result.fault (length replies ≡ length list) (rest ≡ []) (λ h. rest_is ∙ drop_all (length result.started.items) list (sym n ∙ h)) all;
        front = prefix_trans _ _ _ front more;
        journal = map_some result.fault (λ fault. (f : JournalFault) → fault ≡ Journal f → (replies ≡ []) × may_fail f) (λ fault. (f : JournalFault) → fault ≡ Journal f → (result.started.items ≡ []) × may_fail f)
            (λ fault h f e. let (came, may) = h f e in (none_of result.started.items replies is came, may)) broke;
      }
