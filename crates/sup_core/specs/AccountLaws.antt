-- The account of a history that has one item more.
use Rattle.std.proofs.Common.{◌≡◌, ℕ, suc, ◌+◌, ◌-◌, ◌<◌, ◌≤◌, List, [], ◌∷◌, ◌++◌, Bool, true, false, cond, map, length, max, get_or, inl, inr, ◌∙◌, sym, refl, ap, subst, arith, length-append, add-one, append-nil}
use Rattle.std.proofs.Math.ListN.{get_or-append}
use Rattle.std.specs.Prelude.{◌==◌, not, ◌||◌, filter, unwrap_or, fold, if◌then◌else◌}
use Rattle.std.specs.List.{list_any}
use Rattle.std.specs.Option.{option_map}
use Rattle.std.proofs.Math.Bool.{or-false, or-true}
use Rattle.std.proofs.lemmas.Bool.{cases_Bool, cond-true, cond-false, or_from, ne_eqb, cond_both, and_parts}
use Rattle.std.proofs.lemmas.List.{map-append}
use Rattle.std.proofs.lemmas.List.Elements.{filter-append}
use Rattle.std.proofs.lemmas.List.Folds.{list_any-append}
use Rattle.std.proofs.lemmas.List.Sums.{fold_push}
use Rattle.sup_types.specs.declared.text.Text.{Text}
use Rattle.sup_types.specs.declared.template.Template.{Template}
use Rattle.sup_types.specs.declared.view.Row.{Row}
use Rattle.sup_types.specs.declared.view.Status.{Status}
use Rattle.sup_types.specs.declared.view.Status.TheVariants as status
use Rattle.sup_types.specs.declared.history.Operation.{Operation}
use Rattle.sup_types.specs.declared.history.Operation.TheVariants.{Start, Exit, Retry, Terminate, Stop}
use Rattle.sup_types.specs.declared.history.Answer.{Answer}
use Rattle.sup_types.specs.declared.history.Answer.TheVariants.{Running, Ignore, Failed}
use Rattle.sup_types.specs.declared.history.Entry.{Entry}
use Rattle.sup_types.specs.declared.history.Reply.{Reply}
use Rattle.sup_types.specs.declared.history.Reply.TheVariants.{Started, Undefined, StartFailed, Full, Removed, ShutDown, Restarted, Restarting, Ignored, Stray, NotFound, Ended, Stopped, GaveUp, Down}
use Rattle.std.specs.List.Sorted.{IsNonDecreasing}
use Rattle.sup_window.specs.Attempts.{greatest}
use Rattle.sup_window.specs.Laws.{rises-push, greatest-push}
use Rattle.sup_types.specs.Reason.{restarts_after}
use Rattle.sup_types.specs.Status.{is_running}
use Rattle.sup_core.specs.Rows.{has_number, runs_as, waits_as, argument_at, without, waiting_at}
use Rattle.sup_core.specs.State.{State, arrived}
use Rattle.sup_core.specs.Replies.{allows_restart, is_full, started, restarted, attempted, shuts_down, removed, reply_up, reply_to}
use Rattle.sup_core.specs.Changes.{makes_child, is_attempt, goes_down, start_argument, is_end_of, rows_ended, running, rows_after}
use Rattle.sup_core.specs.Account.{Item, latest_moment, made_count, is_down, with_argument, arguments, argument_of, removes, leaves_waiting, is_gone, is_restarting, row_of, listed_rows, attempt_moments, standing, item_of, account}
use Rattle.sup_core.specs.ListingLaws.{list_any-weaker, listing, listed_one, listing-suc, listing-changed, listing-none, rows_changed, rows_changed-none, rows_changed-mark, rows_changed-without, listed-below}

-- what the reply to a termination presupposes
abbrev pub IsAptEnd : List Row → Operation → Type 0
IsAptEnd rows (Terminate number) = list_any (has_number number) rows ≡ true
IsAptEnd rows _ = Unit {0}

-- what a reply presupposes of a supervisor that is up, made so many children and has these rows
abbrev pub IsApt : ℕ → List Row → Operation → Reply → Type 0
IsApt made rows operation (Started number) = number ≡ made + 1
IsApt made rows operation (Restarted number next) = (list_any (has_number number) rows ≡ true) × (next ≡ made + 1)
IsApt made rows operation (Removed number) = list_any (has_number number) rows ≡ true
IsApt made rows operation (Restarting number code) = list_any (has_number number) rows ≡ true
IsApt made rows operation (Ignored number) = list_any (has_number number) rows ≡ true
IsApt made rows operation Ended = IsAptEnd rows operation
IsApt made rows operation _ = Unit {0}

apt_started : (s : State) (operation : Operation) (answer : Answer) → IsApt s.made s.rows operation (started s.made answer)
apt_started s operation Running = refl
apt_started s operation Ignore = tt
apt_started s operation (Failed code) = tt

apt_restarted : (s : State) (operation : Operation) (number : ℕ) (answer : Answer) → list_any (has_number number) s.rows ≡ true
    → IsApt s.made s.rows operation (restarted s.made number answer)
apt_restarted s operation number Running listed = (listed, refl)
apt_restarted s operation number Ignore listed = listed
apt_restarted s operation number (Failed code) listed = listed

apt_attempted : (s : State) (operation : Operation) (number : ℕ) (answer : Answer) → list_any (has_number number) s.rows ≡ true
    → IsApt s.made s.rows operation (attempted s number answer)
apt_attempted s operation number answer listed =
    cond_both (allows_restart s) (restarted s.made number answer) GaveUp (IsApt s.made s.rows operation) (λ _. apt_restarted s operation number answer listed) (λ _. tt)

runs_listed : (number : ℕ) (rows : List Row) → list_any (runs_as number) rows ≡ true → list_any (has_number number) rows ≡ true
runs_listed number rows h =
    list_any-weaker (runs_as number) (has_number number) (λ row both. (and_parts (has_number number row) (is_running row.status) both).0) rows h

waits_listed : (number : ℕ) (rows : List Row) → list_any (waits_as number) rows ≡ true → list_any (has_number number) rows ≡ true
waits_listed number rows h =
    list_any-weaker (waits_as number) (has_number number) (λ row both. (and_parts (has_number number row) (not (is_running row.status)) both).0) rows h

apt_removed : (s : State) (operation : Operation) (number : ℕ) → list_any (has_number number) s.rows ≡ true → IsApt s.made s.rows operation (removed s number)
apt_removed s operation number listed =
    cond_both (shuts_down s.template (without number s.rows)) (ShutDown number) (Removed number) (IsApt s.made s.rows operation) (λ _. tt) (λ _. listed)

apt_up : (s : State) (operation : Operation) (answer : Answer) → IsApt s.made s.rows operation (reply_up s operation answer)
apt_up s (Start arg) answer =
    cond_both (is_full s) Full (started s.made answer) (IsApt s.made s.rows (Start arg)) (λ _. tt) (λ _. apt_started s (Start arg) answer)
apt_up s (Exit number reason) answer =
    let again = restarts_after s.template.restart reason in
    cond_both (list_any (runs_as number) s.rows) (if again then attempted s number answer else removed s number) (Stray number)
    (IsApt s.made s.rows (Exit number reason))
    (λ runs. cond_both again (attempted s number answer) (removed s number) (IsApt s.made s.rows (Exit number reason))
    (λ _. apt_attempted s (Exit number reason) number answer (runs_listed number s.rows runs)) (λ _. apt_removed s (Exit number reason) number (runs_listed number s.rows runs)))
    (λ _. tt)
apt_up s (Retry number) answer =
    cond_both (list_any (waits_as number) s.rows) (attempted s number answer) NotFound (IsApt s.made s.rows (Retry number))
    (λ waits. apt_attempted s (Retry number) number answer (waits_listed number s.rows waits)) (λ _. tt)
apt_up s (Terminate number) answer =
    cond_both (list_any (has_number number) s.rows) Ended NotFound (IsApt s.made s.rows (Terminate number)) (λ listed. listed) (λ _. tt)
apt_up s Stop answer = tt

-- the reply to an entry presupposes no more than what is so
pub apt_reply : (s : State) (entry : Entry) → IsApt s.made s.rows entry.operation (reply_to s entry)
apt_reply s entry =
    cond_both s.down Down (reply_up (arrived s entry.moment) entry.operation entry.answer) (IsApt s.made s.rows entry.operation)
    (λ _. tt) (λ _. apt_up (arrived s entry.moment) entry.operation entry.answer)

-- while the supervisor is down every reply is Down
pub reply_down : (s : State) (entry : Entry) → s.down ≡ true → reply_to s entry ≡ Down
reply_down s entry down = cond-true s.down Down (reply_up (arrived s entry.moment) entry.operation entry.answer) down

-- the account of a history: each child has an argument, and no number past the last is spoken of
pub record IsSound (items : List Item) : Type 0 where
  pub args : length (arguments items) ≡ made_count items
  pub unused : (n : ℕ) → made_count items < n
      → (list_any (λ item. removes n item.entry.operation item.reply) items ≡ false) × (is_restarting items n ≡ false)
  pub rising : IsNonDecreasing (attempt_moments items)
  pub low : greatest (attempt_moments items) ≤ latest_moment items

module _ (items : List Item) (item : Item) where
  pub made_count-push : made_count (items ++ item ∷ []) ≡ (if makes_child item.reply then made_count items + 1 else made_count items)
  made_count-push = fold_push (λ a x. a + cond (makes_child x.reply) 1 0) 0 items item ∙ add_if (made_count items) (makes_child item.reply)
    where
      add_if : (n : ℕ) (b : Bool) → n + cond b 1 0 ≡ cond b (n + 1) n
      add_if n true = refl
      add_if n false = omega arith

  pub latest_moment-push : latest_moment (items ++ item ∷ []) ≡ max (latest_moment items) item.entry.moment
  latest_moment-push =
      ap (fold max 0) (map-append (λ (x : Item). x.entry.moment) items (item ∷ []))
      ∙ fold_push max 0 (map (λ (x : Item). x.entry.moment) items) item.entry.moment

  any_push : (p : Item → Bool) → list_any p (items ++ item ∷ []) ≡ (list_any p items || p item)
  any_push p = list_any-append p items (item ∷ []) ∙ ap (λ b. list_any p items || b) (or-false (p item))

  pub is_down-push : is_down (items ++ item ∷ []) ≡ (is_down items || goes_down item.reply)
  is_down-push = any_push (λ x. goes_down x.reply)

  pub removes-push : (n : ℕ) → list_any (λ x. removes n x.entry.operation x.reply) (items ++ item ∷ [])
      ≡ (list_any (λ x. removes n x.entry.operation x.reply) items || removes n item.entry.operation item.reply)
  removes-push n = any_push (λ x. removes n x.entry.operation x.reply)

  pub is_restarting-push : (n : ℕ) → is_restarting (items ++ item ∷ []) n ≡ (is_restarting items n || leaves_waiting n item.reply)
  is_restarting-push n = any_push (λ x. leaves_waiting n x.reply)

  pub arguments-push : arguments (items ++ item ∷ []) ≡ with_argument (arguments items) item.entry.operation item.reply
  arguments-push = fold_push (λ args x. with_argument args x.entry.operation x.reply) [] items item

  pub attempt_moments-push : attempt_moments (items ++ item ∷ []) ≡ (if is_attempt item.reply then attempt_moments items ++ item.at ∷ [] else attempt_moments items)
  attempt_moments-push =
      ap (map (λ (x : Item). x.at)) (filter-append (λ (x : Item). is_attempt x.reply) items (item ∷ []))
      ∙ map-append (λ (x : Item). x.at) (filter (λ (x : Item). is_attempt x.reply) items) (cond (is_attempt item.reply) (item ∷ []) [])
      ∙ last (attempt_moments items) (is_attempt item.reply)
    where
      last : (ms : List ℕ) (b : Bool) → ms ++ map (λ (x : Item). x.at) (cond b (item ∷ []) []) ≡ cond b (ms ++ item.at ∷ []) ms
      last ms true = refl
      last ms false = append-nil ms

get_or_last : (xs : List Text) (y : Text) → get_or (xs ++ y ∷ []) (length xs) [] ≡ y
get_or_last [] y = refl
get_or_last (x ∷ xs) y = get_or_last xs y

-- the arguments that are there stay
kept_argument : (args : List Text) (operation : Operation) (reply : Reply) (i : ℕ) → i < length args
    → get_or (with_argument args operation reply) i [] ≡ get_or args i []
kept_argument args operation (Started number) i within = get_or-append args (start_argument operation ∷ []) [] i within
kept_argument args operation (Restarted number next) i within = get_or-append args (get_or args (number - 1) [] ∷ []) [] i within
kept_argument args operation _ i within = refl

-- a number past the last is not spoken of
apt_end_past : (made : ℕ) (rows : List Row) (operation : Operation) (n : ℕ)
    → ((k : ℕ) → list_any (has_number k) rows ≡ true → k ≤ made) → made < n → IsAptEnd rows operation → is_end_of n operation ≡ false
apt_end_past made rows (Terminate number) n known past apt = ne_eqb n number (λ e. let below = known number apt in omega arith)
apt_end_past made rows _ n known past apt = refl

apt_past : (made : ℕ) (rows : List Row) (operation : Operation) (reply : Reply) (n : ℕ)
    → ((k : ℕ) → list_any (has_number k) rows ≡ true → k ≤ made) → made < n → IsApt made rows operation reply
    → (removes n operation reply ≡ false) × (leaves_waiting n reply ≡ false)
apt_past made rows operation (Removed number) n known past apt = (ne_eqb n number (λ e. let below = known number apt in omega arith), refl)
apt_past made rows operation (Ignored number) n known past apt = (ne_eqb n number (λ e. let below = known number apt in omega arith), refl)
apt_past made rows operation (Restarted number next) n known past apt = (ne_eqb n number (λ e. let below = known number apt.0 in omega arith), refl)
apt_past made rows operation (Restarting number code) n known past apt = (refl, ne_eqb n number (λ e. let below = known number apt in omega arith))
apt_past made rows operation Ended n known past apt = (apt_end_past made rows operation n known past apt, refl)
apt_past made rows operation _ n known past apt = (refl, refl)

-- a listed number is that of a child that was made
pub known : (items : List Item) (k : ℕ) → list_any (has_number k) (listed_rows items) ≡ true → k ≤ made_count items
known items k listed = (listed-below (row_of items) (is_gone items) (made_count items) k (λ n. refl) listed).1

mix : (d x h : Bool) → ((d || false) || (x || h)) ≡ ((d || x) || h)
mix true x h = refl
mix false x h = refl

-- the account with one more item
abbrev pub with_item : List Item → Entry → ℕ → Reply → List Item
with_item items entry at reply = items ++ record { entry = entry; at = at; reply = reply } ∷ []

module _ (items : List Item) (sound : IsSound items) (entry : Entry) (at : ℕ) (reply : Reply) where
  abbrev more : List Item
  more = with_item items entry at reply

  abbrev hit : ℕ → Bool
  hit n = removes n entry.operation reply

  gone-more : goes_down reply ≡ false → (n : ℕ) → is_gone more n ≡ (is_gone items n || hit n)
  gone-more stays n =
      let removed = list_any (λ x. removes n x.entry.operation x.reply) items in
      let item : Item = record { entry = entry; at = at; reply = reply } in
      ap (λ b. b || list_any (λ x. removes n x.entry.operation x.reply) more) (is_down-push items item)
      ∙ ap (λ b. (is_down items || goes_down reply) || b) (removes-push items item n)
      ∙ ap (λ b. (is_down items || b) || (removed || hit n)) stays
      ∙ mix (is_down items) removed (hit n)

  argument-more : (n : ℕ) → 1 ≤ n → n ≤ made_count items → argument_of more n ≡ argument_of items n
  argument-more n some within =
      ap (λ args. get_or args (n - 1) []) (arguments-push items record { entry = entry; at = at; reply = reply })
      ∙ kept_argument (arguments items) entry.operation reply (n - 1) (omega (arith, sound.args))

  -- the row of a child that was there, which the reply may leave waiting
  abbrev row_with : Bool → ℕ → Row
  row_with waits n = record { number = n; status = if is_restarting items n || waits then status.Restarting else status.Running; arg = argument_of items n }

  row-more : (n : ℕ) → 1 ≤ n → n ≤ made_count items → row_of more n ≡ row_with (leaves_waiting n reply) n
  row-more n some within =
      let waiting : Bool → Text → Row = λ b arg. record { number = n; status = if b then status.Restarting else status.Running; arg = arg } in
      ap (λ b. waiting b (argument_of more n)) (is_restarting-push items record { entry = entry; at = at; reply = reply } n)
      ∙ ap (waiting (is_restarting items n || leaves_waiting n reply)) (argument-more n some within)

  row-same : ((n : ℕ) → leaves_waiting n reply ≡ false) → (n : ℕ) → 1 ≤ n → n ≤ made_count items → row_of more n ≡ row_of items n
  row-same none n some within =
      let waiting : Bool → Row = λ b. record { number = n; status = if b then status.Restarting else status.Running; arg = argument_of items n } in
      row-more n some within
      ∙ ap (λ b. waiting (is_restarting items n || b)) (none n)
      ∙ ap waiting (or-false (is_restarting items n))

  made-same : makes_child reply ≡ false → made_count more ≡ made_count items
  made-same none = made_count-push items record { entry = entry; at = at; reply = reply } ∙ cond-false (makes_child reply) (made_count items + 1) (made_count items) none

  made-next : makes_child reply ≡ true → made_count more ≡ suc (made_count items)
  made-next makes =
      made_count-push items record { entry = entry; at = at; reply = reply }
      ∙ cond-true (makes_child reply) (made_count items + 1) (made_count items) makes ∙ add-one (made_count items)

  -- the rows after a reply that makes no child
  rows-kept : goes_down reply ≡ false → makes_child reply ≡ false → (mark : Row → Row)
      → ((n : ℕ) → 1 ≤ n → n ≤ made_count items → row_of more n ≡ mark (row_of items n))
      → listed_rows more ≡ rows_changed hit mark (listed_rows items)
  rows-kept stays none mark same =
      ap (listing (row_of more) (is_gone more)) (made-same none)
      ∙ listing-changed (row_of items) (row_of more) (is_gone items) (is_gone more) hit mark (made_count items) (λ n. refl) (λ n _ _. gone-more stays n) same

  -- the rows after a reply that makes a child
  rows-grown : is_down items ≡ false → goes_down reply ≡ false → makes_child reply ≡ true → ((n : ℕ) → leaves_waiting n reply ≡ false)
      → IsApt (made_count items) (listed_rows items) entry.operation reply
      → listed_rows more ≡ rows_changed hit (λ row. row) (listed_rows items) ++ running (suc (made_count items)) (argument_of more (suc (made_count items))) ∷ []
  rows-grown up stays makes none apt =
      let m = made_count items in
      let next = suc m in
      let past = apt_past m (listed_rows items) entry.operation reply next (known items) (omega arith) apt in
      let unused = sound.unused next (omega arith) in
      let there : is_gone more next ≡ false =
      gone-more stays next
      ∙ or_from (is_gone items next) (hit next) (or_from (is_down items) (list_any (λ x. removes next x.entry.operation x.reply) items) up unused.0) past.0 in
      let fresh : is_restarting more next ≡ false =
      is_restarting-push items record { entry = entry; at = at; reply = reply } next ∙ or_from (is_restarting items next) (leaves_waiting next reply) unused.1 (none next) in
      let waiting : Bool → Row = λ b. record { number = next; status = if b then status.Restarting else status.Running; arg = argument_of more next } in
      ap (listing (row_of more) (is_gone more)) (made-next makes)
      ∙ listing-suc (row_of more) (is_gone more) m
      ∙ ap (λ l. l ++ listed_one (is_gone more next) (row_of more next))
      (listing-changed (row_of items) (row_of more) (is_gone items) (is_gone more) hit (λ row. row) m (λ n. refl) (λ n _ _. gone-more stays n)
      (row-same none))
      ∙ ap (λ b. rows_changed hit (λ row. row) (listed_rows items) ++ listed_one b (row_of more next)) there
      ∙ ap (λ b. rows_changed hit (λ row. row) (listed_rows items) ++ waiting b ∷ []) fresh

  -- no row is left where the supervisor goes down
  rows-none : goes_down reply ≡ true → listed_rows more ≡ []
  rows-none falls =
      listing-none (row_of more) (is_gone more) (made_count more) (λ n.
      ap (λ b. b || list_any (λ x. removes n x.entry.operation x.reply) more)
      (is_down-push items record { entry = entry; at = at; reply = reply } ∙ ap (λ b. is_down items || b) falls ∙ or-true (is_down items)))

waiting_status : (g h : Bool) → (if g || h then status.Restarting else status.Running) ≡ (if h then status.Restarting else (if g then status.Restarting else status.Running))
waiting_status true true = refl
waiting_status true false = refl
waiting_status false true = refl
waiting_status false false = refl

-- the rows after a termination
rows_ended-push : (items : List Item) → IsSound items → (handle serial moment : ℕ) (operation : Operation) (answer : Answer) (at : ℕ)
    → listed_rows (with_item items record { handle = handle; serial = serial; moment = moment; operation = operation; answer = answer } at Ended) ≡ rows_ended (listed_rows items) operation
rows_ended-push items sound handle serial moment (Terminate number) answer at =
    let entry : Entry = record { handle = handle; serial = serial; moment = moment; operation = Terminate number; answer = answer } in
    rows-kept items sound entry at Ended refl refl (λ row. row) (row-same items sound entry at Ended (λ n. refl)) ∙ rows_changed-without number (listed_rows items)
rows_ended-push items sound handle serial moment (Start arg) answer at =
    let entry : Entry = record { handle = handle; serial = serial; moment = moment; operation = Start arg; answer = answer } in
    rows-kept items sound entry at Ended refl refl (λ row. row) (row-same items sound entry at Ended (λ n. refl)) ∙ rows_changed-none (listed_rows items)
rows_ended-push items sound handle serial moment (Exit number reason) answer at =
    let entry : Entry = record { handle = handle; serial = serial; moment = moment; operation = Exit number reason; answer = answer } in
    rows-kept items sound entry at Ended refl refl (λ row. row) (row-same items sound entry at Ended (λ n. refl)) ∙ rows_changed-none (listed_rows items)
rows_ended-push items sound handle serial moment (Retry number) answer at =
    let entry : Entry = record { handle = handle; serial = serial; moment = moment; operation = Retry number; answer = answer } in
    rows-kept items sound entry at Ended refl refl (λ row. row) (row-same items sound entry at Ended (λ n. refl)) ∙ rows_changed-none (listed_rows items)
rows_ended-push items sound handle serial moment Stop answer at =
    let entry : Entry = record { handle = handle; serial = serial; moment = moment; operation = Stop; answer = answer } in
    rows-kept items sound entry at Ended refl refl (λ row. row) (row-same items sound entry at Ended (λ n. refl)) ∙ rows_changed-none (listed_rows items)

-- the rows after an operation with this reply
pub listed_rows-push : (items : List Item) → IsSound items → (entry : Entry) (at : ℕ) (reply : Reply)
    → IsApt (made_count items) (listed_rows items) entry.operation reply → (makes_child reply ≡ true → is_down items ≡ false)
    → listed_rows (with_item items entry at reply) ≡ rows_after (listed_rows items) entry.operation reply
listed_rows-push items sound entry at (Started number) apt up =
    let m = made_count items in
    let args = arguments items in
    let arg : argument_of (with_item items entry at (Started number)) (suc m) ≡ start_argument entry.operation =
    let place : suc m - 1 ≡ length args = omega (arith, sound.args) in
    ap (λ l. get_or l (suc m - 1) []) (arguments-push items record { entry = entry; at = at; reply = Started number })
    ∙ ap (λ i. get_or (args ++ start_argument entry.operation ∷ []) i []) place
    ∙ get_or_last args (start_argument entry.operation) in
    let next : suc m ≡ number = omega arith in
    rows-grown items sound entry at (Started number) (up refl) refl refl (λ n. refl) apt
    ∙ ap (λ l. l ++ running (suc m) (argument_of (with_item items entry at (Started number)) (suc m)) ∷ []) (rows_changed-none (listed_rows items))
    ∙ ap (λ a. listed_rows items ++ running (suc m) a ∷ []) arg
    ∙ ap (λ n. listed_rows items ++ running n (start_argument entry.operation) ∷ []) next
listed_rows-push items sound entry at (Restarted number fresh) apt up =
    let m = made_count items in
    let args = arguments items in
    let rows = listed_rows items in
    let arg : argument_of (with_item items entry at (Restarted number fresh)) (suc m) ≡ argument_of items number =
    let place : suc m - 1 ≡ length args = omega (arith, sound.args) in
    ap (λ l. get_or l (suc m - 1) []) (arguments-push items record { entry = entry; at = at; reply = Restarted number fresh })
    ∙ ap (λ i. get_or (args ++ argument_of items number ∷ []) i []) place
    ∙ get_or_last args (argument_of items number) in
    let found = (listed-below (row_of items) (is_gone items) m number (λ n. refl) apt.0).2 in
    let same : argument_of items number ≡ argument_at number rows = sym (ap (λ o. unwrap_or (option_map (λ (row : Row). row.arg) o) []) found) in
    let next : suc m ≡ fresh = omega arith in
    rows-grown items sound entry at (Restarted number fresh) (up refl) refl refl (λ n. refl) apt
    ∙ ap (λ l. l ++ running (suc m) (argument_of (with_item items entry at (Restarted number fresh)) (suc m)) ∷ []) (rows_changed-without number rows)
    ∙ ap (λ a. without number rows ++ running (suc m) a ∷ []) (arg ∙ same)
    ∙ ap (λ n. without number rows ++ running n (argument_at number rows) ∷ []) next
listed_rows-push items sound entry at (Removed number) apt up =
    rows-kept items sound entry at (Removed number) refl refl (λ row. row) (row-same items sound entry at (Removed number) (λ n. refl))
    ∙ rows_changed-without number (listed_rows items)
listed_rows-push items sound entry at (Ignored number) apt up =
    rows-kept items sound entry at (Ignored number) refl refl (λ row. row) (row-same items sound entry at (Ignored number) (λ n. refl))
    ∙ rows_changed-without number (listed_rows items)
listed_rows-push items sound entry at (Restarting number code) apt up =
    let row : ℕ → Status → Row = λ n s. record { number = n; status = s; arg = argument_of items n } in
    rows-kept items sound entry at (Restarting number code) refl refl (waiting_at number)
    (λ n some within. row-more items sound entry at (Restarting number code) n some within ∙ ap (row n) (waiting_status (is_restarting items n) (n == number)))
    ∙ rows_changed-mark (waiting_at number) (listed_rows items)
listed_rows-push items sound entry at Ended apt up = rows_ended-push items sound entry.handle entry.serial entry.moment entry.operation entry.answer at
listed_rows-push items sound entry at Stopped apt up = rows-none items sound entry at Stopped refl
listed_rows-push items sound entry at (ShutDown number) apt up = rows-none items sound entry at (ShutDown number) refl
listed_rows-push items sound entry at GaveUp apt up = rows-none items sound entry at GaveUp refl
listed_rows-push items sound entry at Undefined apt up =
    rows-kept items sound entry at Undefined refl refl (λ row. row) (row-same items sound entry at Undefined (λ n. refl)) ∙ rows_changed-none (listed_rows items)
listed_rows-push items sound entry at (StartFailed code) apt up =
    rows-kept items sound entry at (StartFailed code) refl refl (λ row. row) (row-same items sound entry at (StartFailed code) (λ n. refl)) ∙ rows_changed-none (listed_rows items)
listed_rows-push items sound entry at Full apt up =
    rows-kept items sound entry at Full refl refl (λ row. row) (row-same items sound entry at Full (λ n. refl)) ∙ rows_changed-none (listed_rows items)
listed_rows-push items sound entry at (Stray number) apt up =
    rows-kept items sound entry at (Stray number) refl refl (λ row. row) (row-same items sound entry at (Stray number) (λ n. refl)) ∙ rows_changed-none (listed_rows items)
listed_rows-push items sound entry at NotFound apt up =
    rows-kept items sound entry at NotFound refl refl (λ row. row) (row-same items sound entry at NotFound (λ n. refl)) ∙ rows_changed-none (listed_rows items)
listed_rows-push items sound entry at Down apt up =
    rows-kept items sound entry at Down refl refl (λ row. row) (row-same items sound entry at Down (λ n. refl)) ∙ rows_changed-none (listed_rows items)

-- each child that was made has an argument, also afterwards
args-push : (items : List Item) → IsSound items → (entry : Entry) (at : ℕ) (reply : Reply)
    → length (with_argument (arguments items) entry.operation reply) ≡ (if makes_child reply then made_count items + 1 else made_count items)
args-push items sound entry at (Started number) = length-append (arguments items) (start_argument entry.operation ∷ []) ∙ ap (λ n. n + 1) sound.args
args-push items sound entry at (Restarted number next) =
    length-append (arguments items) (get_or (arguments items) (number - 1) [] ∷ []) ∙ ap (λ n. n + 1) sound.args
args-push items sound entry at _ = sound.args

cond_le : (b : Bool) (n k : ℕ) → cond b (n + 1) n < k → n < k
cond_le true n k h = omega arith
cond_le false n k h = h

cond_moments : (b : Bool) (ms : List ℕ) (at : ℕ) (P : List ℕ → Type 0) → P ms → P (ms ++ at ∷ []) → P (cond b (ms ++ at ∷ []) ms)
cond_moments true ms at P same longer = longer
cond_moments false ms at P same longer = same

-- the account stays sound
pub sound-push : (items : List Item) → IsSound items → (entry : Entry) (reply : Reply)
    → IsApt (made_count items) (listed_rows items) entry.operation reply
    → IsSound (with_item items entry (max (latest_moment items) entry.moment) reply)
sound-push items sound entry reply apt =
    let at = max (latest_moment items) entry.moment in
    let item : Item = record { entry = entry; at = at; reply = reply } in
    let made = made_count-push items item in
    let moments = attempt_moments-push items item in
    let latest = latest_moment-push items item in
    record {
      args = ap length (arguments-push items item) ∙ args-push items sound entry at reply ∙ sym made;
      unused = λ n past.
          let before : made_count items < n = cond_le (makes_child reply) (made_count items) n (subst (λ k. k < n) made past) in
          let (gone, stuck) = sound.unused n before in
          let (goes, waits) = apt_past (made_count items) (listed_rows items) entry.operation reply n (known items) before apt in (
            removes-push items item n ∙ or_from (list_any (λ x. removes n x.entry.operation x.reply) items) (removes n entry.operation reply) gone goes,
            is_restarting-push items item n ∙ or_from (is_restarting items n) (leaves_waiting n reply) stuck waits,
          );
      rising = subst IsNonDecreasing (sym moments)
          (cond_moments (is_attempt reply) (attempt_moments items) at IsNonDecreasing sound.rising (rises-push (attempt_moments items) at sound.rising (omega (arith, sound.low))));
      low =
          let bound : greatest (if is_attempt reply then attempt_moments items ++ at ∷ [] else attempt_moments items) ≤ at =
          cond_moments (is_attempt reply) (attempt_moments items) at (λ ms. greatest ms ≤ at) (omega (arith, sound.low))
          (omega (arith, sound.low, greatest-push (attempt_moments items) at)) in
          omega (arith, bound, ap greatest moments, latest);
    }

-- an empty account is sound
pub sound-none : IsSound []
sound-none = record { args = refl; unused = λ n past. (refl, refl); rising = λ i j d before within. absurd (omega arith); low = omega arith }

pub makes_up : (template : Template) (items : List Item) (entry : Entry) → makes_child (reply_to (standing template items) entry) ≡ true → is_down items ≡ false
makes_up template items entry makes = elim (cases_Bool (is_down items)) [
  | inl down ↦ let replied = ap makes_child (reply_down (standing template items) entry down) in absurd (cc)
  | inr up ↦ up
]

-- each step of an account keeps it sound
pub sound-step : (template : Template) (items : List Item) (entry : Entry) → IsSound items → IsSound (items ++ item_of template items entry ∷ [])
sound-step template items entry sound = sound-push items sound entry (reply_to (standing template items) entry) (apt_reply (standing template items) entry)

sound_along : (template : Template) (items : List Item) (history : List Entry) → IsSound items
    → IsSound (fold (λ items entry. items ++ item_of template items entry ∷ []) items history)
sound_along template items [] sound = sound
sound_along template items (entry ∷ entries) sound = sound_along template (items ++ item_of template items entry ∷ []) entries (sound-step template items entry sound)

pub sound_account : (template : Template) (history : List Entry) → IsSound (account template history)
sound_account template history = sound_along template [] history sound-none

pub account-push : (template : Template) (history : List Entry) (entry : Entry)
    → account template (history ++ entry ∷ []) ≡ account template history ++ item_of template (account template history) entry ∷ []
account-push template history entry = fold_push (λ items entry. items ++ item_of template items entry ∷ []) [] history entry
