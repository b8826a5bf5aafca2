-- What was replied to a handle, after one call more, and where its front grows.
use Rattle.std.proofs.Common.{◌≡◌, ℕ, zero, suc, ◌+◌, ◌≤◌, Bool, true, false, true≢false, cond, ◌==◌, List, [], ◌∷◌, ◌++◌, length, drop, refl, sym, ap, ◌∙◌, subst, arith, append-nil, append_assoc, length-append, eq-eqb}
use Rattle.std.specs.Prelude.{Result, Ok, Err, MatchResult, fold}
use Rattle.std.proofs.lemmas.List.{drop-append-le}
use Rattle.std.proofs.lemmas.List.Elements.{filter-append}
use mathlib.Core.List.{IsPrefix}
use Rattle.logbook.specs.Pages.{Book}
use Rattle.sup_types.specs.declared.text.Text.{Text}
use Rattle.sup_types.specs.declared.template.Template.{Template}
use Rattle.sup_types.specs.declared.history.Answer.{Answer}
use Rattle.sup_types.specs.declared.history.Operation.{Operation}
use Rattle.sup_types.specs.declared.history.Operation.TheVariants.{Terminate, Stop}
use Rattle.sup_types.specs.declared.history.Entry.{Entry}
use Rattle.sup_types.specs.declared.history.Reply.{Reply}
use Rattle.sup_core.specs.Account.{Item, account, item_of, reply_after}
use Rattle.sup_core.specs.AccountLaws.{account-push}
use Rattle.sup_log.specs.Tokens.{Told}
use base.Growing.{prefix_trans}
use Rattle.sup_desk.specs.Knowledge.{Knowledge, entries_of, IsUpdated}
use Rattle.sup_desk.specs.EntryLaws.{entries-append, entries-one}
use Rattle.sup_desk.specs.Batches.{AreEntered, IsApplied}
use Rattle.sup_desk.specs.BatchLaws.{entered-own}
use Rattle.sup_desk.specs.Results.{IsUpdateResult}
use Rattle.sup_desk.specs.declared.laws.Done.{Done}
use Rattle.sup_desk.specs.declared.faults.UpdateFault.{UpdateFault}
use Rattle.sup_live.specs.Starts.{child_started, with_arg, started_as, items_of, made_of, replies_since, HasReplies}

-- ---- the items of a handle

cond_own : {X : Type 0} (b : Bool) (xs ys : List X) → b ≡ true → cond b xs ys ≡ xs
cond_own true xs ys e = refl
cond_own false xs ys e = absurd (true≢false (sym e))

cond_other : {X : Type 0} (b : Bool) (xs ys : List X) → b ≡ false → cond b xs ys ≡ ys
cond_other false xs ys e = refl
cond_other true xs ys e = absurd (true≢false e)

abbrev is_of : ℕ → Item → Bool
is_of n i = i.entry.handle == n

module _ (template : Template) where
  -- one entry more
  items-push : (front : List Entry) (e : Entry) (n : ℕ)
      → items_of (account template (front ++ e ∷ [])) n ≡ items_of (account template front) n ++ cond (e.handle == n) (item_of template (account template front) e ∷ []) []
  items-push front e n =
      let items = account template front in
      ap (λ l. items_of l n) (account-push template front e) ∙ filter-append (is_of n) items (item_of template items e ∷ [])

  items-own : (front : List Entry) (e : Entry) (n : ℕ) → e.handle ≡ n
      → items_of (account template (front ++ e ∷ [])) n ≡ items_of (account template front) n ++ item_of template (account template front) e ∷ []
  items-own front e n own =
      let items = account template front in
      items-push front e n ∙ ap (λ l. items_of items n ++ l) (cond_own (e.handle == n) (item_of template items e ∷ []) [] (eq-eqb e.handle n own))

  -- where an entry is not the handle's, the rest has as many of its
  not_own : (b : Bool) (e : Entry) (xs : List Entry) → cond b (e ∷ xs) xs ≡ [] → (b ≡ false) × (xs ≡ [])
  not_own true e xs h = absurd (cc h)
  not_own false e xs h = (refl, h)

  -- where the rest has no entry of the handle's, its items are the same
  items-same : (front rest : List Entry) (n : ℕ) → entries_of rest n ≡ [] → items_of (account template (front ++ rest)) n ≡ items_of (account template front) n
  items-same front [] n no_own = ap (λ l. items_of (account template l) n) (append-nil front)
  items-same front (e ∷ es) n no_own =
      let items = account template front in
      let other = not_own (e.handle == n) e (entries_of es n) no_own in
      ap (λ l. items_of (account template l) n) (sym (append_assoc front (e ∷ []) es)) ∙ items-same (front ++ e ∷ []) es n other.1 ∙ items-push front e n
      ∙ ap (λ l. items_of items n ++ l) (cond_other (e.handle == n) (item_of template items e ∷ []) [] other.0) ∙ append-nil (items_of items n)

  no_more : (xs ys zs : List Entry) → xs ++ ys ≡ zs → zs ≡ xs → ys ≡ []
  no_more xs [] zs e f = refl
  no_more xs (y ∷ ys) zs e f = let a = length-append xs (y ∷ ys) in let b = ap length (e ∙ f) in absurd (omega (arith, a, b))

  -- a longer front with no more of its own entries
  items-longer : (front longer : List Entry) (n : ℕ) → IsPrefix front longer → entries_of longer n ≡ entries_of front n → items_of (account template longer) n ≡ items_of (account template front) n
  items-longer front longer n begins same =
      let rest = begins.0 in
      let own = ap (λ l. entries_of l n) (sym begins.1) in
      let nothing = no_more (entries_of front n) (entries_of rest n) (entries_of longer n) (sym (entries-append n front rest) ∙ sym own) same in
      ap (λ l. items_of (account template l) n) (sym begins.1) ∙ items-same front rest n nothing

  -- there are as many as the handle has entries
  items_from : (n : ℕ) (items : List Item) (front : List Entry)
      → length (items_of (fold (λ items entry. items ++ item_of template items entry ∷ []) items front) n) ≡ length (items_of items n) + length (entries_of front n)
  items_from n items [] = omega arith
  items_from n items (e ∷ es) =
      let item : Item = item_of template items e in
      let rest = items_from n (items ++ item ∷ []) es in
      let push = ap (λ (l : List Item). length l) (filter-append (is_of n) items (item ∷ [])) ∙ length-append (items_of items n) (items_of (item ∷ []) n) in
      let one = first (e.handle == n) item e (entries_of es n) in
      omega (arith, rest, push, one)
    where
      first : (b : Bool) (i : Item) (e : Entry) (es : List Entry) → length (cond b (i ∷ []) []) + length es ≡ length (cond b (e ∷ es) es)
      first true i e es = omega arith
      first false i e es = omega arith

  items-length : (front : List Entry) (n : ℕ) → length (items_of (account template front) n) ≡ length (entries_of front n)
  items-length front n = let h = items_from n [] front in omega (arith, h)

drop-all : {X : Type 0} (n : ℕ) (xs : List X) → length xs ≤ n → drop n xs ≡ []
drop-all zero [] low = refl
drop-all zero (x ∷ xs) low = absurd (omega (arith, low))
drop-all (suc n) [] low = refl
drop-all (suc n) (x ∷ xs) low = drop-all n xs (omega (arith, low))

-- a handle has made as many calls since and more
pub since_grown : (since : ℕ) (xs ys zs : List Entry) → zs ≡ xs ++ ys → since ≤ length xs → since ≤ length zs
since_grown since xs ys zs is low = let a = ap length is ∙ length-append xs ys in omega (arith, a, low)

-- which has made none yet
pub none_since : (since : ℕ) (calls : List Entry) → since ≡ length calls → drop since calls ≡ []
none_since since calls is = drop-all since calls (omega (arith, is))

-- what a handle did since, after more calls
pub since_more : (since : ℕ) (xs ys zs : List Entry) → zs ≡ xs ++ ys → since ≤ length xs → drop since zs ≡ drop since xs ++ ys
since_more since xs ys zs is low = ap (drop since) is ∙ drop-append-le since xs ys low

-- ---- a handle, and what it did since a call

-- what f makes of these operations and the replies to them
abbrev pub each_of : {X : Type 0} → (Operation → Reply → List X) → List Operation → List Reply → List X
each_of f [] rs = []
each_of f (o ∷ os) [] = []
each_of f (o ∷ os) (r ∷ rs) = f o r ++ each_of f os rs

module _ {X : Type 0} (f : Operation → Reply → List X) (since : ℕ) where
  made_of-append : (xs ys : List Item) → made_of f (xs ++ ys) ≡ made_of f xs ++ made_of f ys
  made_of-append [] ys = refl
  made_of-append (x ∷ xs) ys = ap (λ l. f x.entry.operation x.reply ++ l) (made_of-append xs ys) ∙ sym (append_assoc (f x.entry.operation x.reply) (made_of f xs) (made_of f ys))

  replies-own : (template : Template) (front : List Entry) (e : Entry) (n : ℕ) → since ≤ length (entries_of front n) → e.handle ≡ n
      → replies_since f template since (front ++ e ∷ []) n ≡ replies_since f template since front n ++ f e.operation (reply_after template front e)
  replies-own template front e n low own =
      let items = items_of (account template front) n in
      let item = item_of template (account template front) e in
      let count = items-length template front n in
      let mine = f e.operation (reply_after template front e) in
      ap (λ l. made_of f (drop since l)) (items-own template front e n own) ∙ ap (made_of f) (drop-append-le since items (item ∷ []) (omega (arith, low, count)))
      ∙ made_of-append (drop since items) (item ∷ []) ∙ ap (λ l. made_of f (drop since items) ++ l) (append-nil mine)

  replies-longer : (template : Template) (front longer : List Entry) (n : ℕ) → IsPrefix front longer → entries_of longer n ≡ entries_of front n
      → replies_since f template since longer n ≡ replies_since f template since front n
  replies-longer template front longer n begins same = ap (λ l. made_of f (drop since l)) (items-longer template front longer n begins same)

  pub none_yet : (template : Template) (handle : Knowledge) → since ≡ length handle.calls → HasReplies f template since handle []
  none_yet template handle is front more own =
      let count = items-length template front handle.number in
      let same = ap length own in
      sym (ap (made_of f) (drop-all since (items_of (account template front) handle.number) (omega (arith, count, same, is))))

  -- the handle has seen more, and made no call
  pub seen_more : (template : Template) (before after : Knowledge) (replies : List X) → HasReplies f template since before replies → IsPrefix before.front after.front → after.calls ≡ before.calls → after.number ≡ before.number
      → HasReplies f template since after replies
  seen_more template before after replies h more calls number front begins own =
      h front (prefix_trans before.front after.front front more begins) (ap (λ n. entries_of front n) (sym number) ∙ own ∙ calls) ∙ ap (λ n. replies_since f template since front n) (sym number)

  module _ (may : Text → ℕ → Answer → Type 0) (template : Template) (press : Book) (before : Knowledge) (replies : List X) (operation : Operation) (moment : ℕ) (low : since ≤ length before.calls) where
    -- one call more
    pub one_more : (after : Knowledge) (reply : Reply) (told : Told) → HasReplies f template since before replies → IsUpdated may template press before operation moment after reply told
        → HasReplies f template since after (replies ++ f operation reply)
    one_more after reply told h u front begins own =
        let n = before.number in
        let e = u.entry in
        let is = u.after_is in
        let number : after.number ≡ n = ap (λ (k : Knowledge). k.number) is in
        let longer : IsPrefix (u.front ++ e ∷ []) front = subst (λ (k : Knowledge). IsPrefix k.front front) is begins in
        let mine : entries_of front n ≡ entries_of (u.front ++ e ∷ []) n =
        ap (λ k. entries_of front k) (sym number) ∙ own ∙ ap (λ (k : Knowledge). k.calls) is ∙ ap (λ l. l ++ e ∷ []) (sym u.met.own) ∙ sym (entries-one n u.front e u.entered.handle_is) in
        let met = ap length u.met.own in
        let told_as : f e.operation (reply_after template u.front e) ≡ f operation reply = (λ i. f (u.entered.operation_is i) (sym u.reply_is i)) in
        (λ i. h u.front u.met.more_front u.met.own i ++ sym told_as i)
        ∙ sym (replies-own template u.front e n (omega (arith, met, low)) u.entered.handle_is)
        ∙ sym (replies-longer template (u.front ++ e ∷ []) front n longer mine)
        ∙ ap (λ k. replies_since f template since front k) (sym number)

    pub called_low : (after : Knowledge) (result : Result Done UpdateFault) → IsUpdateResult may template press before operation moment after result → since ≤ length after.calls
    called_low after (Ok done) r = since_grown since before.calls (r.ok.entry ∷ []) after.calls (ap (λ (k : Knowledge). k.calls) r.ok.after_is) low
    called_low after (Err fault) r = let same = ap length r.calls.0 in omega (arith, same, low)

    -- whatever came of a call
    pub called : (after : Knowledge) (result : Result Done UpdateFault) → HasReplies f template since before replies → IsUpdateResult may template press before operation moment after result
        → MatchResult result (λ done. HasReplies f template since after (replies ++ f operation done.reply)) (λ _. HasReplies f template since after replies)
    called after (Ok done) h r = one_more after done.reply done.ticket h r.ok
    called after (Err fault) h r = seen_more template before after replies h r.seen.front r.calls.0 r.calls.1

    -- where it was no start
    pub called_else : (after : Knowledge) (result : Result Done UpdateFault) → ((reply : Reply) → f operation reply ≡ []) → HasReplies f template since before replies
        → IsUpdateResult may template press before operation moment after result → HasReplies f template since after replies
    called_else after (Ok done) no_start h r =
        subst (HasReplies f template since after) (ap (λ l. replies ++ l) (no_start done.reply) ∙ append-nil replies) (one_more after done.reply done.ticket h r.ok)
    called_else after (Err fault) no_start h r = seen_more template before after replies h r.seen.front r.calls.0 r.calls.1

  module _ (may : Text → ℕ → Answer → Type 0) (template : Template) (number moment : ℕ) where
    replies-entered : (front : List Entry) (serial : ℕ) (os : List Operation) (es : List Entry) (rs : List Reply) → since ≤ length (entries_of front number) → AreEntered may template number moment front serial os es rs
        → replies_since f template since (front ++ es) number ≡ replies_since f template since front number ++ each_of f os rs
    replies-entered front serial [] es rs low done =
        ap (λ l. replies_since f template since (front ++ l) number) done.0 ∙ ap (λ l. replies_since f template since l number) (append-nil front) ∙ sym (append-nil (replies_since f template since front number))
    replies-entered front serial (o ∷ os) es rs low (x, xs, ys, entries, replies, first, rest) =
        let one = replies-own template front x number low first.handle_is in
        let grown = ap length (entries-one number front x first.handle_is) ∙ length-append (entries_of front number) (x ∷ []) in
        let more = replies-entered (front ++ x ∷ []) (serial + 1) os xs ys (omega (arith, grown, low)) rest in
        let mine = f o (reply_after template front x) in
        ap (λ l. replies_since f template since (front ++ l) number) entries
        ∙ ap (λ l. replies_since f template since l number) (sym (append_assoc front (x ∷ []) xs))
        ∙ more
        ∙ ap (λ l. l ++ each_of f os ys) (one ∙ ap (λ o. replies_since f template since front number ++ f o (reply_after template front x)) first.operation_is)
        ∙ append_assoc (replies_since f template since front number) mine (each_of f os ys)
        ∙ ap (λ l. replies_since f template since front number ++ each_of f (o ∷ os) l) (sym replies)

  -- calls that were entered together
  pub applied : (may : Text → ℕ → Answer → Type 0) (template : Template) (press : Book) (before : Knowledge) (before_replies : List X) (operations : List Operation) (moment : ℕ) (after : Knowledge) (replies : List Reply) (told : Told)
      → since ≤ length before.calls → HasReplies f template since before before_replies → IsApplied may template press before operations moment after replies told → HasReplies f template since after (before_replies ++ each_of f operations replies)
  applied may template press before before_replies operations moment after replies told low h u front begins own =
      let n = before.number in
      let is = u.after_is in
      let number : after.number ≡ n = ap (λ (k : Knowledge). k.number) is in
      let longer : IsPrefix (u.front ++ u.entries) front = subst (λ (k : Knowledge). IsPrefix k.front front) is begins in
      let theirs = entered-own may template n moment u.front (length before.calls) operations u.entries replies u.entered in
      let mine : entries_of front n ≡ entries_of (u.front ++ u.entries) n =
      ap (λ k. entries_of front k) (sym number) ∙ own ∙ ap (λ (k : Knowledge). k.calls) is ∙ (λ i. sym u.met.own i ++ sym theirs i) ∙ sym (entries-append n u.front u.entries) in
      let met = ap length u.met.own in
      ap (λ l. l ++ each_of f operations replies) (h u.front u.met.more_front u.met.own)
      ∙ sym (replies-entered may template n moment u.front (length before.calls) operations u.entries replies (omega (arith, met, low)) u.entered)
      ∙ sym (replies-longer template (u.front ++ u.entries) front n longer mine)
      ∙ ap (λ k. replies_since f template since front k) (sym number)

with_no_arg : (numbers : List ℕ) (operation : Operation) → ((number : ℕ) (rest : List ℕ) → with_arg (number ∷ rest) operation ≡ []) → with_arg numbers operation ≡ []
with_no_arg [] operation h = refl
with_no_arg (n ∷ ns) operation h = h n ns

pub terminates : (number : ℕ) (reply : Reply) → child_started (Terminate number) reply ≡ []
terminates number reply = with_no_arg (started_as reply) (Terminate number) (λ n ns. refl)

pub stops : (reply : Reply) → child_started Stop reply ≡ []
stops reply = with_no_arg (started_as reply) Stop (λ n ns. refl)
