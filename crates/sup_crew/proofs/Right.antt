-- What a reply says of the numbers and arguments of children.
use Rattle.std.proofs.Common.{◌≡◌, ℕ, zero, suc, ◌+◌, ◌-◌, ◌<◌, ◌≤◌, Bool, true, false, cond, List, [], ◌∷◌, ◌++◌, length, drop, Option, Some, None, map, get_or, fold, refl, ap, sym, ◌∙◌, arith}
use Rattle.std.specs.Prelude.{◌==◌, filter, if◌then◌else◌}
use Rattle.std.specs.List.{list_any}
use Rattle.std.proofs.lemmas.Bool.{cond_both}
use Rattle.sup_types.specs.Reason.{restarts_after}
use Rattle.sup_types.specs.declared.text.Text.{Text}
use Rattle.sup_types.specs.declared.template.Template.{Template}
use Rattle.sup_types.specs.declared.history.Operation.{Operation}
use Rattle.sup_types.specs.declared.history.Operation.TheVariants.{Start, Exit, Retry, Terminate, Stop}
use Rattle.sup_types.specs.declared.history.Answer.{Answer}
use Rattle.sup_types.specs.declared.history.Answer.TheVariants.{Running, Ignore, Failed}
use Rattle.sup_types.specs.declared.history.Entry.{Entry}
use Rattle.sup_types.specs.declared.history.Reply.{Reply}
use Rattle.sup_types.specs.declared.history.Reply.TheVariants.{Started, Full, Removed, ShutDown, Restarted, Stray, GaveUp, Down}
use Rattle.sup_core.specs.Rows.{runs_as, without}
use Rattle.sup_core.specs.State.{State, arrived}
use Rattle.sup_core.specs.Replies.{allows_restart, is_full, started, restarted, attempted, shuts_down, removed, reply_up, reply_to}
use Rattle.sup_core.specs.Changes.{makes_child, start_argument}
use Rattle.sup_core.specs.Account.{Item, made_count, with_argument, arguments, argument_of, is_gone, row_of, listed_rows, standing, item_of, account}
use Rattle.sup_core.specs.ListingLaws.{listed-below}
use Rattle.sup_core.specs.AccountLaws.{IsApt, apt_reply, IsSound, sound-none, sound-step, made_count-push, arguments-push}
use Rattle.sup_log.specs.Tokens.{Told}
use Rattle.sup_desk.specs.Knowledge.{Knowledge}
use Rattle.sup_crew.specs.Calls.{Call, call_of, calls_of}
use Rattle.sup_crew.specs.Drivers.{front_of, calls_since}

-- the reply to a start says no restart, and that to an exit no start, and no restart of another child
abbrev pub NamesStart : Reply → Type 0
NamesStart (Restarted old number) = ⊥
NamesStart _ = Unit {0}

abbrev pub NamesExit : ℕ → Reply → Type 0
NamesExit ended (Started number) = ⊥
NamesExit ended (Restarted old number) = ended ≡ old
NamesExit ended _ = Unit {0}

abbrev pub Names : Operation → Reply → Type 0
Names (Start arg) reply = NamesStart reply
Names (Exit ended reason) reply = NamesExit ended reply
Names (Retry number) reply = Unit {0}
Names (Terminate number) reply = Unit {0}
Names Stop reply = Unit {0}

names_started : (made : ℕ) (answer : Answer) → NamesStart (started made answer)
names_started made Running = tt
names_started made Ignore = tt
names_started made (Failed code) = tt

names_restarted : (made ended : ℕ) (answer : Answer) → NamesExit ended (restarted made ended answer)
names_restarted made ended Running = refl
names_restarted made ended Ignore = tt
names_restarted made ended (Failed code) = tt

names_up : (s : State) (operation : Operation) (answer : Answer) → Names operation (reply_up s operation answer)
names_up s (Start arg) answer = cond_both (is_full s) Full (started s.made answer) NamesStart (λ _. tt) (λ _. names_started s.made answer)
names_up s (Exit ended reason) answer =
    let again = restarts_after s.template.restart reason in
    cond_both (list_any (runs_as ended) s.rows) (if again then attempted s ended answer else removed s ended) (Stray ended) (NamesExit ended)
    (λ _. cond_both again (attempted s ended answer) (removed s ended) (NamesExit ended)
    (λ _. cond_both (allows_restart s) (restarted s.made ended answer) GaveUp (NamesExit ended) (λ _. names_restarted s.made ended answer) (λ _. tt))
    (λ _. cond_both (shuts_down s.template (without ended s.rows)) (ShutDown ended) (Removed ended) (NamesExit ended) (λ _. tt) (λ _. tt)))
    (λ _. tt)
names_up s (Retry number) answer = tt
names_up s (Terminate number) answer = tt
names_up s Stop answer = tt

names_down : (operation : Operation) → Names operation Down
names_down (Start arg) = tt
names_down (Exit ended reason) = tt
names_down (Retry number) = tt
names_down (Terminate number) = tt
names_down Stop = tt

pub names_reply : (s : State) (entry : Entry) → Names entry.operation (reply_to s entry)
names_reply s entry =
    cond_both s.down Down (reply_up (arrived s entry.moment) entry.operation entry.answer) (Names entry.operation)
    (λ _. names_down entry.operation) (λ _. names_up (arrived s entry.moment) entry.operation entry.answer)

-- the child that a reply says was made has the argument of the start, or that of the child that was restarted, which has a lower number
abbrev pub IsRight : List Item → Operation → Reply → Type 0
IsRight items operation (Started number) = (argument_of items number ≡ start_argument operation) × (1 ≤ number) × (number ≤ made_count items)
IsRight items operation (Restarted old number) = (argument_of items number ≡ argument_of items old) × (old < number) × (number ≤ made_count items)
IsRight items operation _ = Unit {0}

abbrev pub AreRight : List Item → List Item → Type 0
AreRight items [] = Unit {0}
AreRight items (i ∷ is) = IsRight items i.entry.operation i.reply × Names i.entry.operation i.reply × AreRight items is

get_or-front : (xs ys : List Text) (k : ℕ) → k < length xs → get_or (xs ++ ys) k [] ≡ get_or xs k []
get_or-front [] ys k low = absurd (omega arith)
get_or-front (x ∷ xs) ys zero low = refl
get_or-front (x ∷ xs) ys (suc k) low = get_or-front xs ys k (omega arith)

get_or-last : (xs : List Text) (x : Text) (k : ℕ) → k ≡ length xs → get_or (xs ++ x ∷ []) k [] ≡ x
get_or-last [] x zero e = refl
get_or-last [] x (suc k) e = absurd (omega (arith, e))
get_or-last (y ∷ xs) x zero e = absurd (omega (arith, e))
get_or-last (y ∷ xs) x (suc k) e = get_or-last xs x k (omega (arith, e))

kept : (args : List Text) (operation : Operation) (reply : Reply) (k : ℕ) → k < length args → get_or (with_argument args operation reply) k [] ≡ get_or args k []
kept args operation (Started number) k low = get_or-front args (start_argument operation ∷ []) k low
kept args operation (Restarted old number) k low = get_or-front args (get_or args (old - 1) [] ∷ []) k low
kept args operation _ k low = refl

module _ (items : List Item) (sound : IsSound items) (item : Item) where
  abbrev more : List Item
  more = items ++ item ∷ []

  stable : (number : ℕ) → number - 1 < made_count items → argument_of more number ≡ argument_of items number
  stable number low =
      let all = sound.args in
      ap (λ l. get_or l (number - 1) []) (arguments-push items item) ∙ kept (arguments items) item.entry.operation item.reply (number - 1) (omega (arith, all, low))

  grows : made_count items ≤ made_count more
  grows = let e = made_count-push items item in let g = up (makes_child item.reply) (made_count items) in omega (arith, e, g)
    where
      up : (b : Bool) (n : ℕ) → n ≤ cond b (n + 1) n
      up true n = omega arith
      up false n = omega arith

  right-more : (operation : Operation) (reply : Reply) → IsRight items operation reply → IsRight more operation reply
  right-more operation (Started number) h = let g = grows in let l = h.1 in let m = h.2 in (stable number (omega (arith, l, m)) ∙ h.0, h.1, omega (arith, g, m))
  right-more operation (Restarted old number) h =
      let g = grows in
      let l = h.1 in
      let m = h.2 in
      (stable number (omega (arith, l, m)) ∙ h.0 ∙ sym (stable old (omega (arith, l, m))), h.1, omega (arith, g, m))
  right-more operation _ h = tt

  all-more : (is : List Item) → AreRight items is → AreRight more is
  all-more [] h = tt
  all-more (i ∷ is) h = (right-more i.entry.operation i.reply h.0, h.1, all-more is h.2)

are_right-snoc : (items is : List Item) (i : Item) → AreRight items is → IsRight items i.entry.operation i.reply → Names i.entry.operation i.reply → AreRight items (is ++ i ∷ [])
are_right-snoc items [] i h one names = (one, names, tt)
are_right-snoc items (j ∷ is) i h one names = (h.0, h.1, are_right-snoc items is i h.2 one names)

-- the item that was added is right
last_right : (items : List Item) → IsSound items → (entry : Entry) (at : ℕ) (reply : Reply) → IsApt (made_count items) (listed_rows items) entry.operation reply
    → IsRight (items ++ record { entry = entry; at = at; reply = reply } ∷ []) entry.operation reply
last_right items sound entry at (Started number) apt =
    let item : Item = record { entry = entry; at = at; reply = Started number } in
    let all = sound.args in
    let made = made_count-push items item in
    (ap (λ l. get_or l (number - 1) []) (arguments-push items item) ∙ get_or-last (arguments items) (start_argument entry.operation) (number - 1) (omega (arith, all, apt)), omega (arith, apt), omega (arith, apt, made))
last_right items sound entry at (Restarted old number) apt =
    let item : Item = record { entry = entry; at = at; reply = Restarted old number } in
    let all = sound.args in
    let made = made_count-push items item in
    let next = apt.1 in
    let low = listed-below (row_of items) (is_gone items) (made_count items) old (λ n. refl) apt.0 in (
      ap (λ l. get_or l (number - 1) []) (arguments-push items item)
          ∙ get_or-last (arguments items) (get_or (arguments items) (old - 1) []) (number - 1) (omega (arith, all, next))
          ∙ sym (stable items sound item old (let first = low.0 in let last = low.1 in omega (arith, first, last))),
      (let last = low.1 in omega (arith, next, last)),
      omega (arith, next, made),
    )
last_right items sound entry at _ apt = tt

right_along : (template : Template) (items : List Item) (history : List Entry) → IsSound items → AreRight items items
    → AreRight (fold (λ items entry. items ++ item_of template items entry ∷ []) items history) (fold (λ items entry. items ++ item_of template items entry ∷ []) items history)
right_along template items [] sound right = right
right_along template items (entry ∷ entries) sound right =
    let item : Item = item_of template items entry in
    let now : List Item = items ++ item ∷ [] in
    right_along template now entries (sound-step template items entry sound)
    (are_right-snoc now items item (all-more items sound item items right)
    (last_right items sound entry item.at item.reply (apt_reply (standing template items) entry))
    (names_reply (standing template items) entry))

-- each reply of an account is right
pub account-right : (template : Template) (history : List Entry) → AreRight (account template history) (account template history)
account-right template history = right_along template [] history sound-none tt

-- the same of calls
abbrev pub AreRightCalls : List Item → List Call → Type 0
AreRightCalls items [] = Unit {0}
AreRightCalls items (c ∷ cs) = IsRight items c.operation c.reply × Names c.operation c.reply × AreRightCalls items cs

right_filtered : (items : List Item) (p : Item → Bool) (is : List Item) → AreRight items is → AreRightCalls items (map call_of (filter p is))
right_filtered items p [] h = tt
right_filtered items p (i ∷ is) h = one (p i) (right_filtered items p is h.2)
  where
    one : (b : Bool) → AreRightCalls items (map call_of (filter p is)) → AreRightCalls items (map call_of (cond b (i ∷ filter p is) (filter p is)))
    one true rest = (h.0, h.1, rest)
    one false rest = rest

pub calls-right : (template : Template) (history : List Entry) (number : ℕ) → AreRightCalls (account template history) (calls_of template history number)
calls-right template history number = right_filtered (account template history) (λ i. i.entry.handle == number) (account template history) (account-right template history)

right_rest : (items : List Item) (n : ℕ) (cs : List Call) → AreRightCalls items cs → AreRightCalls items (drop n cs)
right_rest items zero cs h = h
right_rest items (suc n) [] h = tt
right_rest items (suc n) (c ∷ cs) h = right_rest items n cs h.2

-- the same of the calls of a run
pub since-right : (template : Template) (before : Knowledge) (ticket : Option Told) → AreRightCalls (account template (front_of ticket)) (calls_since template before ticket)
since-right template before None = tt
since-right template before (Some told) = right_rest (account template told.front) (length before.calls) (calls_of template told.front before.number) (calls-right template told.front before.number)
