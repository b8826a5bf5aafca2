-- The words of a load lead to the load of their numbers.
use Rattle.std.proofs.Common.{◌≡◌, ◌∙◌, ◌++◌, ◌<◌, ◌≤◌, ◌^◌, ℕ, Bool, true, false, List, [], ◌∷◌, Some, None, refl, sym, ap, ap₂, subst, arith, codes, get_or, map, inl, inr}
use Rattle.std.specs.Prelude.{Result, Ok, Err, decimal, Option, find, if◌then◌else◌, is_some, option_and_then, option_map}
use Rattle.std.specs.Borrow.{Bor}
use Rattle.std.specs.Str.{bytes_eq}
use Rattle.std.specs.Str.Parse.{IsNumeral, digits_value, without_leading_plus}
use Rattle.std.specs.Char.{digit_value}
use Rattle.std.proofs.lemmas.Fmt.{decimal_is_IsNumeral}
use Rattle.std.proofs.lemmas.List.{map-append}
use Rattle.std.proofs.lemmas.Str.Parse.{without_leading_plus_none}
use Rattle.clap.specs.Faults.{check_fault, defaults_fault, entered_fault, fault_of, level_fault, settle_fault, walk_fault}
use Rattle.clap.specs.Kinds.{IsAmong, Kinds, or_else}
use Rattle.clap.specs.Simple.{App, built, entered, names_of, subcommand_of}
use Rattle.clap.specs.Takes.{is_given}
use Rattle.clap.specs.Values.{Accepts, kind_of}
use Rattle.clap.specs.Walk.{Row, Text, Walk, finished, first_of, idle, nothing_held, one_of, row_text, rows_after, settled, walk, walk_from}
use Rattle.clap.specs.declared.builder.value_parser.ValueParser.TheVariants.{Unsigned}
use Rattle.clap.proofs.FaultLemmas.{stopped_fault}
use Rattle.clap.proofs.KindLemmas.{value_kinds-ok}
use Rattle.clap.proofs.OnLiterals.{clap_on_literals}
use Rattle.clap.proofs.WalkLemmas.{walk_stopped}
use Rattle.sup_words.specs.Grammar.{supload_app}
use Rattle.sup_words.specs.Ranges.{IsWithin}
use Rattle.sup_words.specs.declared.load.Load.{Load}
use Rattle.clap.specs.declared.error.Error.{Error}
use Rattle.sup_words.proofs.Leads.{first_byte, rows_in}
use Rattle.sup_words.specs.Orders.{AreNumbers, Command, HasNumber, IsLoadOf, LeadsTo, WordsLeadTo, command_at, kinds_at}
use Rattle.sup_words.specs.Settings.{AreNew, AreWithin, Given, IsWhole, Setting, workers, children, readers, turns, least_of, most_of, name_of, number_in, words_of}
use Rattle.sup_words.specs.declared.words.Order.{Order}
use Rattle.sup_words.specs.declared.words.Order.TheVariants as order
use Rattle.sup_script.specs.declared.runs.answer.Detail.TheVariants as detail
use Rattle.sup_script.specs.declared.runs.answer.Input.TheVariants as input
use Rattle.sup_words.proofs.Numbers.{same_number}
use Rattle.sup_words.proofs.Tables.{appends, explain_row, found_at, is_new, row_for, same_setting, table, table_of, unexplained}
use Rattle.sup_words.proofs.Walks.{AllPlain, leaf_fault, leaf_rows, load_rules, load_shape, missing, or_else-nil, pair_fault, pair_faults, plain_text}

-- ---- numbers

small_for : (s : Setting) (n : ℕ) → n ≤ most_of s → n < 2 ^ 64
small_for workers n most = omega arith
small_for children n most = omega arith
small_for readers n most = omega arith
small_for turns n most = omega arith

-- a numeral begins with no byte that is no digit
no_first : (v : List ℕ) → IsNumeral 10 v → (c : ℕ) → 10 ≤ digit_value c → get_or v 0 0 ≡ c → ⊥
no_first [] is c other e = absurd (omega (arith, is.0))
no_first (x ∷ xs) is c other e =
    let digit : digit_value c < 10 = subst (λ (y : ℕ). digit_value y < 10) e is.1.0 in
    omega (arith, digit, other)

module _ (n : ℕ) (small : n < 2 ^ 64) where
  numeral : IsNumeral 10 (decimal n)
  numeral = (decimal_is_IsNumeral n small).0

  no_plus : without_leading_plus (decimal n) ≡ decimal n
  no_plus = without_leading_plus_none (decimal n) (no_first (decimal n) numeral 43 (omega arith))

  value_is : digits_value 10 (without_leading_plus (decimal n)) ≡ n
  value_is = ap (digits_value 10) no_plus ∙ (decimal_is_IsNumeral n small).1

  is_accepted : (least most : ℕ) → least ≤ n → n ≤ most → Accepts false (Unsigned least most) (decimal n)
  is_accepted least most low high = (
    subst (IsNumeral 10) (sym no_plus) numeral,
    subst (λ (m : ℕ). m < 2 ^ 64) (sym value_is) small,
    subst (λ (m : ℕ). least ≤ m) (sym value_is) low,
    subst (λ (m : ℕ). m ≤ most) (sym value_is) high,
  )

  number_at : (rows : List Row) (s : Setting) → find (λ r. bytes_eq r.id (name_of s)) rows ≡ Some (row_for (s, n)) → HasNumber rows (name_of s) n
  unfolding row_for
  number_at rows s at = record {
    text = decimal n;
    found = ap (option_and_then row_text) at;
    numeral = subst (IsNumeral 10) (sym no_plus) numeral;
    fits = subst (λ (m : ℕ). m < 2 ^ 64) (sym value_is) small;
    value = sym value_is;
  }

-- ---- the faults of the options

all_plain : (given : Given) → AreWithin given → AllPlain given
unfolding AllPlain
all_plain [] within = tt
all_plain (p ∷ ps) within =
    let small = small_for p.0 p.1 within.1 in
    (plain_text (decimal p.1) (no_first (decimal p.1) (numeral p.1 small) 45 (omega arith)), all_plain ps within.2)

pair_passes : (before : Given) (p : Setting × ℕ) → number_in before p.0 ≡ None → least_of p.0 ≤ p.1 → p.1 ≤ most_of p.0
    → pair_fault p (map row_for before) ≡ []
unfolding pair_fault
pair_passes before p new low high =
    let small = small_for p.0 p.1 high in
    rw (is_new before p.0 p.1 new, value_kinds-ok false (Unsigned (least_of p.0) (most_of p.0)) (decimal p.1) (is_accepted p.1 small (least_of p.0) (most_of p.0) low high)) refl

pairs_pass : (before after : Given) → AreNew before after → AreWithin after → pair_faults (map row_for before) after ≡ []
unfolding pair_faults
pairs_pass before [] new within = refl
pairs_pass before (p ∷ ps) new within =
    ap₂ or_else (pair_passes before p new.0 within.0 within.1)
    (ap (λ r. pair_faults r ps) (appends before p.0 p.1 new.0 ∙ sym (map-append row_for before (p ∷ []))) ∙ pairs_pass (before ++ p ∷ []) ps new.1 within.2)

-- the range of a number that is given
within_of : (given : Given) (s : Setting) (n : ℕ) → AreWithin given → number_in given s ≡ Some n → (least_of s ≤ n) × (n ≤ most_of s)
within_of [] s n within is = cc
within_of (p ∷ ps) s n within is = go (bytes_eq (name_of p.0) (name_of s)) refl is (within_of ps s n within.2)
  where
    same_in : {a b : ℕ} → Some a ≡ Some b → a ≡ b
    same_in e = cc

    go : (b : Bool) → bytes_eq (name_of p.0) (name_of s) ≡ b → (if b then Some p.1 else number_in ps s) ≡ Some n
        → (number_in ps s ≡ Some n → (least_of s ≤ n) × (n ≤ most_of s)) → (least_of s ≤ n) × (n ≤ most_of s)
    go true same is rest =
        let one = same_setting p.0 s same in
        let low : least_of s ≤ p.1 = subst (λ (a : Setting). least_of a ≤ p.1) one within.0 in
        let high : p.1 ≤ most_of s = subst (λ (a : Setting). p.1 ≤ most_of a) one within.1 in
        (subst (λ (m : ℕ). least_of s ≤ m) (same_in is) low, subst (λ (m : ℕ). m ≤ most_of s) (same_in is) high)
    go false same is rest = rest is

-- what is found is found among more
found_more : {X : Type 0} (is_it : X → Bool) (xs ys : List X) (x : X) → find is_it xs ≡ Some x → find is_it (xs ++ ys) ≡ Some x
found_more is_it [] ys x is = cc
found_more is_it (z ∷ zs) ys x is = go (is_it z) is (found_more is_it zs ys x)
  where
    go : (b : Bool) → (if b then Some z else find is_it zs) ≡ Some x → (find is_it zs ≡ Some x → find is_it (zs ++ ys) ≡ Some x)
        → (if b then Some z else find is_it (zs ++ ys)) ≡ Some x
    go true is rest = is
    go false is rest = rest is

module _ (given : Given) (w n r t : ℕ) (whole : IsWhole given w n r t) where
  row_at : (s : Setting) (m : ℕ) → number_in given s ≡ Some m → find (λ r. bytes_eq r.id (name_of s)) (table_of given) ≡ Some (row_for (s, m))
  row_at s m is = found_more (λ r. bytes_eq r.id (name_of s)) (map row_for given) (explain_row ∷ []) (row_for (s, m)) (found_at given s ∙ ap (option_map (λ k. row_for (s, k))) is)

  is_there : (s : Setting) (m : ℕ) → number_in given s ≡ Some m → is_given (name_of s) (table_of given) ≡ true
  unfolding row_for
  is_there s m is = rw (row_at s m is) refl

  none_missing : missing (table_of given) ≡ []
  unfolding missing
  none_missing = rw (is_there workers w whole.has_workers, is_there children n whole.has_children, is_there readers r whole.has_readers, is_there turns t whole.has_turns) refl

  number_of : (s : Setting) (m : ℕ) → number_in given s ≡ Some m → HasNumber (table_of given) (name_of s) m
  number_of s m is = number_at m (small_for s m (within_of given s m whole.within is).1) (table_of given) s (row_at s m is)

  numbers : AreNumbers (table_of given) w n r t
  numbers = record {
    workers = number_of workers w whole.has_workers;
    children = number_of children n whole.has_children;
    readers = number_of readers r whole.has_readers;
    turns = number_of turns t whole.has_turns;
  }

  leaf_passes : level_fault load_shape [] nothing_held (words_of given) false [] ≡ []
  leaf_passes =
      leaf_fault given (all_plain given whole.within) (unexplained given whole.once)
      ∙ ap₂ or_else (pairs_pass [] given whole.once whole.within) (ap missing (table given whole.once) ∙ none_missing)

-- ---- the command above them

abbrev app : App
app = built supload_app

-- the walk stops at the command, and leaves it the words behind it
stops : (rest : List Text) → walk app.top.rules (names_of app) nothing_held (codes "load" ∷ rest)
    ≡ record { held = nothing_held; waiting = idle; position = 1; is_trailing = false; stopped = Some (codes "load", rest) }
unfolding clap_on_literals
stops rest = sym (walk_stopped app.top.rules (names_of app) (walk_from nothing_held) (codes "load") [] rest)

abbrev parts : Kinds → Walk → Kinds
parts F end = or_else F (or_else (entered_fault app end.stopped) (or_else (settle_fault app.top.rules false end.held)
    (or_else (defaults_fault (settled app.top.rules end.held).rows app.top.rules)
    (check_fault app.top (finished app.top.rules end.held) (is_some (entered app end.stopped))))))

passes_above : (rest : List Text) → walk_fault app.top (names_of app) (walk_from nothing_held) (codes "load" ∷ rest) ≡ []
unfolding clap_on_literals
passes_above rest = stopped_fault app.top (names_of app) (walk_from nothing_held) (codes "load", []) rest

level_below : (rest : List Text) → parts [] (record { held = nothing_held; waiting = idle; position = 1; is_trailing = false; stopped = Some (codes "load", rest) })
    ≡ or_else (level_fault load_shape [] nothing_held rest false []) []
unfolding clap_on_literals
level_below rest = refl

fault_below : (name : Text) (rest : List Text) → fault_of supload_app (name ∷ codes "load" ∷ rest) ≡ level_fault load_shape [] nothing_held rest false []
fault_below name rest =
    let parted : fault_of supload_app (name ∷ codes "load" ∷ rest)
    ≡ parts (walk_fault app.top (names_of app) (walk_from nothing_held) (codes "load" ∷ rest)) (walk app.top.rules (names_of app) nothing_held (codes "load" ∷ rest)) = refl in
    parted ∙ (ap₂ parts (passes_above rest) (stops rest) ∙ (level_below rest ∙ or_else-nil _))

-- ---- the load

at_load : (rest : List Text) → entered app (Some (codes "load", rest)) ≡ Some (codes "load", rows_after load_rules [] rest)
unfolding clap_on_literals
at_load rest = refl

entered_below : (name : Text) (rest : List Text) → subcommand_of supload_app (name ∷ codes "load" ∷ rest) ≡ Some (codes "load", rows_after load_rules [] rest)
entered_below name rest = ap (λ (w : Walk). entered app w.stopped) (stops rest) ∙ at_load rest

-- the four numbers have no path of a journal, and nothing is explained
no_path : (given : Given) → first_of (codes "journal") (table_of given) ≡ None
unfolding row_for explain_row
no_path [] = refl
no_path ((workers, n) ∷ ps) = no_path ps
no_path ((children, n) ∷ ps) = no_path ps
no_path ((readers, n) ∷ ps) = no_path ps
no_path ((turns, n) ∷ ps) = no_path ps

is_silent : (given : Given) → one_of (codes "explain") (table_of given) ≡ Some (codes "false")
unfolding row_for explain_row
is_silent [] = refl
is_silent ((workers, n) ∷ ps) = is_silent ps
is_silent ((children, n) ∷ ps) = is_silent ps
is_silent ((readers, n) ∷ ps) = is_silent ps
is_silent ((turns, n) ∷ ps) = is_silent ps

no_text : (path : Option (Bor Text)) → option_map (λ s. s.now) path ≡ None → path ≡ None
no_text None e = refl
no_text (Some s) e = cc

-- an order of the numbers alone is the load of them, and an error is want of memory
load_of : (kinds : Kinds) (command : Command) (rows : List Row) (w n r t : ℕ) → kinds ≡ [] → command ≡ Some (codes "load", rows)
    → AreNumbers rows w n r t → first_of (codes "journal") rows ≡ None → one_of (codes "explain") rows ≡ Some (codes "false") → IsWithin w n r t → (result : Result Order Error) → LeadsTo kinds command result
    → IsLoadOf w n r t result
unfolding first_byte rows_in
load_of kinds command rows w n r t none is are bare silent within (Ok (order.Text (input.Script p) d)) leads =
    let bad : ◌≡◌ {A = ℕ} 115 108 = ap first_byte (sym leads.1.1.0 ∙ is) in absurd (omega arith)
load_of kinds command rows w n r t none is are bare silent within (Ok (order.Text (input.History p) d)) leads =
    let bad : ◌≡◌ {A = ℕ} 114 108 = ap first_byte (sym leads.1.1.0 ∙ is) in absurd (omega arith)
load_of kinds command rows w n r t none is are bare silent within (Ok (order.Text (input.Journal p) d)) leads =
    let bad : ◌≡◌ {A = ℕ} 106 108 = ap first_byte (sym leads.1.1.0 ∙ is) in absurd (omega arith)
load_of kinds command rows w n r t none is are bare silent within (Ok (order.Follow p)) leads =
    let bad : ◌≡◌ {A = ℕ} 106 108 = ap first_byte (sym leads.1.1 ∙ is) in absurd (omega arith)
load_of kinds command rows w n r t none is are bare silent within (Ok (order.Serve how)) leads =
    let bad : ◌≡◌ {A = ℕ} 115 108 = ap first_byte (sym leads.1.1 ∙ is) in absurd (omega arith)
load_of kinds command rows w n r t none is are bare silent within (Ok (order.Load load path answer)) leads =
    let same : leads.1.0 ≡ rows = ap rows_in (sym leads.1.1 ∙ is) in
    let those = subst (λ (R : List Row). AreNumbers R load.workers load.children load.readers load.turns) same leads.1.2 in
    let path_is : option_map (λ s. s.now) path ≡ None = leads.1.3 ∙ (ap (first_of (codes "journal")) same ∙ bare) in (
      same_number those.workers are.workers,
      same_number those.children are.children,
      same_number those.readers are.readers,
      same_number those.turns are.turns,
      no_text path path_is,
      leads.1.4.left_out (ap (one_of (codes "explain")) same ∙ silent),
    )
load_of kinds command rows w n r t none is are bare silent within (Err e) (inl memory) = memory
load_of kinds command rows w n r t none is are bare silent within (Err e) (inr (inl among)) = absurd (subst (IsAmong (kind_of e)) none among)
load_of kinds command rows w n r t none is are bare silent within (Err e) (inr (inr other)) =
    let load : Load = record {
      workers = w;
      children = n;
      readers = r;
      turns = t;
      crew = (within.0, within.1);
      crowd = (within.2, within.3);
      asking = within.4;
      asked = (within.5, within.6);
    } in
    let loud : one_of (codes "explain") rows ≡ Some (codes "true") → ⊥ = λ e. let bad : ◌≡◌ {A = Option Text} (Some (codes "false")) (Some (codes "true")) = sym silent ∙ e in cc in
    absurd (other.1.none (order.Load load None detail.Number) (rows, is, are, sym bare, record { given = λ e. absurd (loud e); left_out = λ e. refl }))

pub load_leads : (name : Text) (given : Given) (w n r t : ℕ) → IsWhole given w n r t → (result : Result Order Error)
    → WordsLeadTo (name ∷ codes "load" ∷ words_of given) result → IsLoadOf w n r t result
unfolding kinds_at command_at
load_leads name given w n r t whole result leads =
    let words = name ∷ codes "load" ∷ words_of given in
    let rows : rows_after load_rules [] (words_of given) ≡ table_of given =
    leaf_rows given (all_plain given whole.within) (unexplained given whole.once) ∙ table given whole.once in
    let entered : subcommand_of supload_app words ≡ Some (codes "load", table_of given) =
    entered_below name (words_of given) ∙ ap (λ (R : List Row). Some (codes "load", R)) rows in
    let range : (s : Setting) (m : ℕ) → number_in given s ≡ Some m → (least_of s ≤ m) × (m ≤ most_of s) = λ s m is. within_of given s m whole.within is in
    let within : IsWithin w n r t = (
      (range workers w whole.has_workers).0,
      (range workers w whole.has_workers).1,
      (range children n whole.has_children).0,
      (range children n whole.has_children).1,
      (range readers r whole.has_readers).1,
      (range turns t whole.has_turns).0,
      (range turns t whole.has_turns).1,
    ) in
    load_of (fault_of supload_app words) (subcommand_of supload_app words) (table_of given) w n r t
    (fault_below name (words_of given) ∙ leaf_passes given w n r t whole) entered (numbers given w n r t whole) (no_path given) (is_silent given) within result leads
