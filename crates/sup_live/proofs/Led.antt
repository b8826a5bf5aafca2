-- What a driver entered, and one call, one batch or one payment more.
use Rattle.std.proofs.Common.{◌≡◌, ℕ, zero, suc, ◌+◌, get_or, ◌<◌, ◌≤◌, ◌&&◌, Bool, true, false, true≢false, List, [], ◌∷◌, ◌++◌, length, take, drop, subst, refl, ap, sym, ◌∙◌, append-nil, append_assoc, arith, Option, Some, None}
use Rattle.std.specs.Prelude.{Result, Ok, Err, IfSome, IfNone, OnOk, is_err}
use Rattle.std.proofs.lemmas.List.Elements.{All-push}
use mathlib.Core.List.{IsPrefix}
use Rattle.logbook.specs.Pages.{Book}
use Rattle.sup_types.specs.declared.reason.Reason.{Reason}
use Rattle.sup_types.specs.declared.text.Text.{Text}
use Rattle.sup_types.specs.declared.template.Template.{Template}
use Rattle.sup_types.specs.declared.history.Answer.{Answer}
use Rattle.sup_types.specs.declared.history.Operation.{Operation}
use Rattle.sup_types.specs.declared.history.Operation.TheVariants.{Exit}
use Rattle.sup_types.specs.declared.history.Entry.{Entry}
use Rattle.sup_types.specs.declared.history.Reply.{Reply}
use Rattle.sup_log.specs.Tokens.{Told}
use Rattle.sup_desk.specs.Knowledge.{Knowledge}
use Rattle.sup_desk.specs.Batches.{AreEntered, IsApplied}
use Rattle.sup_desk.specs.BatchLaws.{entered-replies, next_of}
use Rattle.sup_desk.specs.declared.faults.UpdateFault.{UpdateFault}
use Rattle.sup_desk.specs.declared.laws.Done.{Done}
use Rattle.sup_desk.specs.Results.{IsUpdateResult}
use Rattle.sup_exits.specs.declared.exit.Child.{Child}
use Rattle.sup_exits.specs.declared.exit.Exit.{Exit as Exited}
use Rattle.sup_exits.specs.Endings.{is_ending}
use Rattle.sup_exits.specs.Exits.{children_of, operations_of}
use Rattle.sup_live.specs.Starts.{HasReplies}
use Rattle.sup_live.specs.ReplyLaws.{each_of, seen_more, applied, since_more}
use Rattle.sup_live.specs.Restarts.{restarted_as, number_restarted, restarted_among, numbers_of}
use Rattle.sup_live.specs.Leads.{exit_of, exits_among, is_driven, are_driven, told_by, HasTold, IsLed, HasEntered}

operations_of-append : (xs ys : List Exited) → operations_of (xs ++ ys) ≡ operations_of xs ++ operations_of ys
operations_of-append [] ys = refl
operations_of-append (x ∷ xs) ys = ap (λ l. Exit x.child.number x.reason ∷ l) (operations_of-append xs ys)

children_of-append : (xs ys : List Exited) → children_of (xs ++ ys) ≡ children_of xs ++ children_of ys
children_of-append [] ys = refl
children_of-append (x ∷ xs) ys = ap (λ l. x.child ∷ l) (children_of-append xs ys)

pub operations-length : (xs : List Exited) → length (operations_of xs) ≡ length xs
operations-length [] = refl
operations-length (x ∷ xs) = ap suc (operations-length xs)

pub among-append : (xs ys : List Entry) → exits_among (xs ++ ys) ≡ exits_among xs ++ exits_among ys
among-append [] ys = refl
among-append (x ∷ xs) ys = ap (λ l. exit_of x.operation ++ l) (among-append xs ys) ∙ sym (append_assoc (exit_of x.operation) (exits_among xs) (exits_among ys))

and-assoc : (a b c : Bool) → (a && (b && c)) ≡ ((a && b) && c)
and-assoc true b c = refl
and-assoc false b c = refl

pub driven-append : (xs ys : List Entry) → are_driven (xs ++ ys) ≡ (are_driven xs && are_driven ys)
driven-append [] ys = refl
driven-append (x ∷ xs) ys = ap (λ b. is_driven x.operation && b) (driven-append xs ys) ∙ and-assoc (is_driven x.operation) (are_driven xs) (are_driven ys)

both : (a b : Bool) → a ≡ true → b ≡ true → (a && b) ≡ true
both a b p q = ap (λ x. x && b) p ∙ q

-- one exit more is listed
pub listed_more : (xs : List Exited) (k : ℕ) (x : Exited) → k < length xs → x ≡ get_or xs k x → operations_of (take k xs) ++ Exit x.child.number x.reason ∷ [] ≡ operations_of (take (k + 1) xs)
listed_more xs k x low is = sym (operations_of-append (take k xs) (x ∷ [])) ∙ ap operations_of (sym (next_of k xs x low is))

module _ (may : Text → ℕ → Answer → Type 0) (template : Template) (number moment : ℕ) where
  -- exits that were entered together are exits
  entered-among : (front : List Entry) (serial : ℕ) (exits : List Exited) (es : List Entry) (rs : List Reply)
      → AreEntered may template number moment front serial (operations_of exits) es rs → exits_among es ≡ operations_of exits
  entered-among front serial [] es rs done = ap exits_among done.0
  entered-among front serial (n ∷ ns) es rs (x, xs, ys, entries, replies, first, rest) =
      ap exits_among entries ∙ ap (λ p. exit_of p ++ exits_among xs) first.operation_is
      ∙ ap (λ l. Exit n.child.number n.reason ∷ l) (entered-among (front ++ x ∷ []) (serial + 1) ns xs ys rest)

  entered-driven : (front : List Entry) (serial : ℕ) (exits : List Exited) (es : List Entry) (rs : List Reply)
      → AreEntered may template number moment front serial (operations_of exits) es rs → are_driven es ≡ true
  entered-driven front serial [] es rs done = ap are_driven done.0
  entered-driven front serial (n ∷ ns) es rs (x, xs, ys, entries, replies, first, rest) =
      ap are_driven entries ∙ ap (λ p. is_driven p && are_driven xs) first.operation_is
      ∙ entered-driven (front ++ x ∷ []) (serial + 1) ns xs ys rest

each_restarted : (exits : List Exited) (replies : List Reply) → length replies ≡ length exits → each_of number_restarted (operations_of exits) replies ≡ restarted_among replies
each_restarted [] [] e = refl
each_restarted [] (r ∷ rs) e = absurd (omega (arith, e))
each_restarted (x ∷ xs) [] e = refl
each_restarted (x ∷ xs) (r ∷ rs) e = ap (λ l. restarted_as r ++ l) (each_restarted xs rs (omega (arith, e)))

operations-take : (k : ℕ) (xs : List Exited) → take k (operations_of xs) ≡ operations_of (take k xs)
operations-take zero xs = refl
operations-take (suc k) [] = refl
operations-take (suc k) (x ∷ xs) = ap (λ l. Exit x.child.number x.reason ∷ l) (operations-take k xs)

pub take-length : {A : Type 0} (k : ℕ) (xs : List A) → k ≤ length xs → length (take k xs) ≡ k
take-length zero xs h = refl
take-length (suc k) [] h = absurd (omega (arith, h))
take-length (suc k) (x ∷ xs) h = ap suc (take-length k xs (omega (arith, h)))

-- a result that is no error
pub not_err : {A B : Type 0} (r : Result A B) (P : Type 0) → is_err r ≡ false → OnOk r P → P
not_err (Ok a) P e h = h
not_err (Err b) P e h = absurd (true≢false e)

take-le : {A : Type 0} (k : ℕ) (xs : List A) → length (take k xs) ≤ length xs
take-le zero xs = omega arith
take-le (suc k) [] = omega arith
take-le (suc k) (x ∷ xs) = let h = take-le k xs in omega (arith, h)

take-within : (j k : ℕ) (xs : List Exited) → j ≤ k → take j (take k xs) ≡ take j xs
take-within zero k xs h = refl
take-within (suc j) zero xs h = absurd (omega (arith, h))
take-within (suc j) (suc k) [] h = refl
take-within (suc j) (suc k) (x ∷ xs) h = ap (λ l. x ∷ l) (take-within j k xs (omega (arith, h)))

-- ---- one batch more

-- nothing was entered
pub entered_none : (template : Template) (before after : Knowledge) (held : List Exited) (k : ℕ) (replies : List Reply) → IsPrefix before.front after.front → k ≡ 0 → replies ≡ [] → after.calls ≡ before.calls → after.number ≡ before.number
    → HasEntered template before after (take k held) replies
entered_none template before after held k replies more n r calls number =
    record {
      front = more;
      added = [];
      calls_are = calls ∙ sym (append-nil before.calls);
      exits_are = ap (λ j. operations_of (take j held)) (sym n);
      driven = refl;
      restarted = λ since numbers low h. subst (HasReplies number_restarted template since after) (sym (append-nil numbers) ∙ ap (λ l. numbers ++ restarted_among l) (sym r)) (seen_more number_restarted since template before after numbers h more calls number);
    }

module _ (may : Text → ℕ → Answer → Type 0) (template : Template) (press : Book) (before after : Knowledge) (moment : ℕ) where
  -- these exits, each with its reply
  entered_all : (exits : List Exited) (operations : List Operation) (replies : List Reply) (told : Told) → IsPrefix before.front after.front → operations ≡ operations_of exits
      → IsApplied may template press before operations moment after replies told → HasEntered template before after exits replies
  entered_all exits operations replies told more are e =
      let entered = subst (λ o. AreEntered may template before.number moment e.front (length before.calls) o e.entries replies) are e.entered in
      let n = entered-replies may template before.number moment e.front (length before.calls) (operations_of exits) e.entries replies entered ∙ operations-length exits in
      record {
        front = more;
        added = e.entries;
        calls_are = ap (λ (k : Knowledge). k.calls) e.after_is;
        exits_are = entered-among may template before.number moment e.front (length before.calls) exits e.entries replies entered;
        driven = entered-driven may template before.number moment e.front (length before.calls) exits e.entries replies entered;
        restarted = λ since numbers low h.
            subst (λ l. HasReplies number_restarted template since after (numbers ++ l)) (ap (λ o. each_of number_restarted o replies) are ∙ each_restarted exits replies n)
            (applied number_restarted since may template press before numbers operations moment after replies told low h e);
      }

  pub applied-length : (operations : List Operation) (replies : List Reply) (told : Told) → IsApplied may template press before operations moment after replies told → length replies ≡ length operations
  applied-length operations replies told e = entered-replies may template before.number moment e.front (length before.calls) operations e.entries replies e.entered

  -- all of the first exits
  pub entered_ok : (held : List Exited) (count k : ℕ) (operations : List Operation) (replies : List Reply) (told : Told) → IsPrefix before.front after.front → operations ≡ operations_of (take count held) → k ≡ count
      → IsApplied may template press before operations moment after replies told → HasEntered template before after (take k held) replies
  entered_ok held count k operations replies told more are n e = entered_all (take k held) operations replies told more (are ∙ ap (λ j. operations_of (take j held)) (sym n)) e

  -- some of them, or none
  pub entered_part : (held : List Exited) (count k : ℕ) (operations : List Operation) (replies : List Reply) (ticket : Option Told) → IsPrefix before.front after.front → operations ≡ operations_of (take count held) → k ≡ length replies
      → k ≤ count → IfSome ticket (λ t. IsApplied may template press before (take (length replies) operations) moment after replies t × (0 < length replies))
      → IfNone ticket ((replies ≡ []) × (after.calls ≡ before.calls) × (after.number ≡ before.number)) → HasEntered template before after (take k held) replies
  entered_part held count k operations replies None more are n low some none = entered_none template before after held k replies more (n ∙ ap length none.0) none.0 none.1 none.2
  entered_part held count k operations replies (Some t) more are n low some none =
      let first : take (length replies) operations ≡ operations_of (take k held) =
      ap (λ j. take j operations) (sym n) ∙ ap (take k) are ∙ operations-take k (take count held) ∙ ap operations_of (take-within k count held low) in
      entered_all (take k held) (take (length replies) operations) replies t more first some.0

  -- no more replies than operations
  pub part-length : (operations : List Operation) (replies : List Reply) (ticket : Option Told)
      → IfSome ticket (λ t. IsApplied may template press before (take (length replies) operations) moment after replies t × (0 < length replies))
      → IfNone ticket ((replies ≡ []) × (after.calls ≡ before.calls) × (after.number ≡ before.number)) → length replies ≤ length operations
  part-length operations replies None some none = let e = ap (λ (l : List Reply). length l) none.0 in omega (arith, e)
  part-length operations replies (Some t) some none =
      let n = applied-length (take (length replies) operations) replies t some.0 in
      let le = take-le (length replies) operations in
      omega (arith, n, le)

-- ---- one call more, which is no exit

-- what a call added, if anything
abbrev pub HasAdded : List Entry → List Entry → Type 0
HasAdded before after = (added : List Entry) × (after ≡ before ++ added) × (exits_among added ≡ []) × (are_driven added ≡ true)

-- whatever a call answered that is no exit
pub called_added : (may : Text → ℕ → Answer → Type 0) (template : Template) (press : Book) (before after : Knowledge) (o : Operation) (moment : ℕ) (r : Result Done UpdateFault)
    → exit_of o ≡ [] → is_driven o ≡ true → IsUpdateResult may template press before o moment after r → HasAdded before.calls after.calls
called_added may template press before after o moment (Ok d) x y is =
    let same = is.ok.entered.operation_is in
    (is.ok.entry ∷ [], ap (λ (k : Knowledge). k.calls) is.ok.after_is, ap (λ l. l ++ []) (ap exit_of same ∙ x), ap (λ b. b && true) (ap is_driven same ∙ y))
called_added may template press before after o moment (Err e) x y is = ([], is.calls.0 ∙ sym (append-nil before.calls), refl, refl)

-- ---- what was paid

told-again : (told rest : List Exited) → told_by (operations_of (told ++ rest)) (children_of told) ≡ told
told-again [] [] = refl
told-again [] (x ∷ xs) = refl
told-again (t ∷ ts) rest = ap (λ l. t ∷ l) (told-again ts rest)

-- whichever exits are reported
led_by : (may_end : Reason → Bool) (calls : List Entry) (paid : List Child) (unpaid told : List Exited) → HasTold may_end calls paid unpaid told → IsLed may_end calls paid unpaid
led_by may_end calls paid unpaid told h =
    let same : told_by (exits_among calls) paid ≡ told = (λ i. told_by (h.0 i) (h.1 i)) ∙ told-again told unpaid in
    subst (HasTold may_end calls paid unpaid) (sym same) h

-- a batch was entered, and is to be paid
led_batch : (may_end : Reason → Bool) (before after : List Entry) (paid : List Child) (exits : List Exited) → exits_among after ≡ exits_among before ++ operations_of exits → IsLed may_end before paid [] → IsLed may_end after paid exits
led_batch may_end before after paid exits e h =
    let told = told_by (exits_among before) paid in
    led_by may_end after paid exits told (e ∙ ap (λ l. l ++ operations_of exits) (h.0 ∙ ap operations_of (append-nil told)) ∙ sym (operations_of-append told exits), h.1, h.2)

module _ (since : ℕ) (before after added : List Entry) (is : after ≡ before ++ added) (low : since ≤ length before) where
  pub led_entered : (may_end : Reason → Bool) (paid : List Child) (exits : List Exited) → exits_among added ≡ operations_of exits → IsLed may_end (drop since before) paid [] → IsLed may_end (drop since after) paid exits
  led_entered may_end paid exits e h =
      led_batch may_end (drop since before) (drop since after) paid exits
      (ap exits_among (since_more since before added after is low) ∙ among-append (drop since before) added ∙ ap (λ l. exits_among (drop since before) ++ l) e) h

  pub driven_more : are_driven added ≡ true → are_driven (drop since before) ≡ true → are_driven (drop since after) ≡ true
  driven_more d h = ap are_driven (since_more since before added after is low) ∙ driven-append (drop since before) added ∙ both (are_driven (drop since before)) (are_driven added) h d

-- the first of these is paid
pub led_paid : (may_end : Reason → Bool) (before calls : List Entry) (was paid : List Child) (held rest : List Exited) (exit : Exited) (k j : ℕ) → calls ≡ before → held ≡ exit ∷ rest → k ≡ j + 1 → paid ≡ was ++ exit.child ∷ []
    → is_ending may_end exit.reason ≡ true → IsLed may_end before was (take k held) → IsLed may_end calls paid (take j rest)
led_paid may_end before calls was paid held rest exit k j same f n p ending h =
    let told = told_by (exits_among before) was in
    let next : k ≡ suc j = omega (arith, n) in
    let first : take k held ≡ exit ∷ take j rest = (λ i. take (next i) (f i)) in
    led_by may_end calls paid (take j rest) (told ++ exit ∷ []) (
      ap exits_among same ∙ h.0 ∙ ap (λ l. operations_of (told ++ l)) first ∙ ap operations_of (sym (append_assoc told (exit ∷ []) (take j rest))),
      p ∙ ap (λ l. l ++ exit.child ∷ []) h.1 ∙ sym (children_of-append told (exit ∷ [])),
      All-push (λ (e : Exited). is_ending may_end e.reason ≡ true) told exit h.2 ending,
    )

pub led_none : (may_end : Reason → Bool) (calls : List Entry) (paid : List Child) → calls ≡ [] → paid ≡ [] → IsLed may_end calls paid []
led_none may_end calls paid c p = led_by may_end calls paid [] [] (ap exits_among c, p, λ k d low. absurd (omega (arith, low)))

-- ---- the children that were restarted

numbers_of-append : (xs ys : List Child) → numbers_of (xs ++ ys) ≡ numbers_of xs ++ numbers_of ys
numbers_of-append [] ys = refl
numbers_of-append (x ∷ xs) ys = ap (λ l. x.number ∷ l) (numbers_of-append xs ys)

-- one child more is shown
pub numbers_shown : (now was : List Child) (c : Child) → now ≡ was ++ c ∷ [] → numbers_of now ≡ numbers_of was ++ c.number ∷ []
numbers_shown now was c n = ap numbers_of n ∙ numbers_of-append was (c ∷ [])

-- the reply to one exit more
pub shown_more : (now was all : List ℕ) (replies rest : List Reply) (reply : Reply) → replies ≡ reply ∷ rest → now ≡ was ++ restarted_as reply → was ++ restarted_among replies ≡ all → now ++ restarted_among rest ≡ all
shown_more now was all replies rest reply r n e = ap (λ l. l ++ restarted_among rest) n ∙ append_assoc was (restarted_as reply) (restarted_among rest) ∙ ap (λ l. was ++ restarted_among l) (sym r) ∙ e

-- and the numbers of those that were made
pub restarted_made : (template : Template) (since later : ℕ) (before after : Knowledge) (was now : List ℕ) → HasReplies number_restarted template since before was → later ≡ since → IsPrefix before.front after.front → after.calls ≡ before.calls → after.number ≡ before.number → now ≡ was
    → HasReplies number_restarted template later after now
restarted_made template since later before after was now h same more calls number is =
    subst (λ (x : ℕ × List ℕ). HasReplies number_restarted template x.0 after x.1) (λ i. (sym same i, sym is i)) (seen_more number_restarted since template before after was h more calls number)
