-- What clap's walk makes of the words of a load.
use Rattle.std.proofs.Common.{◌≡◌, ◌∙◌, ◌==◌, ◌&&◌, ◌++◌, ℕ, Bool, true, false, List, [], ◌∷◌, Some, None, refl, sym, ap, ap₂, codes}
use Rattle.std.specs.Prelude.{decimal}
use Rattle.std.specs.List.{fold, list_any}
use Rattle.std.specs.Prelude.{⊤, ◌||◌, not, if◌then◌else◌}
use Rattle.std.proofs.Common.{get_or}
use Rattle.std.proofs.lemmas.Bool.{ne_eqb}
use Rattle.std.specs.Str.{bytes_eq}
use Rattle.clap.specs.Faults.{turn_fault, walk_fault, settle_fault, defaults_fault, check_fault, level_fault, repeat_fault, given_default_fault}
use Rattle.clap.specs.Kinds.{Kinds, or_else, values_kinds, check_kinds}
use Rattle.clap.specs.Lexer.{long_of, short_of}
use Rattle.clap.specs.Simple.{Shape, help_rule, filled, new_shape}
use Rattle.clap.specs.Walk.{Held, Row, Rule, Text, Walk, idle, option, walked, settled, nothing_held, finished, used, is_empty, default_rows, reading_by, with_default, with_values, has_row, rows_after}
use Rattle.clap.specs.Takes.{is_given}
use Rattle.clap.specs.declared.builder.value_parser.ValueParser.TheVariants.{Unsigned}
use Rattle.clap.specs.declared.parser.matches.ValueSource.TheVariants.{DefaultValue}
use Rattle.clap.proofs.OnLiterals.{clap_on_literals}
use Rattle.sup_words.specs.Grammar.{explain_rule, journal_rule, setting_rule}
use Rattle.sup_words.specs.Settings.{Setting, Given, workers, children, readers, turns, name_of, flag_of, words_of, least_of, most_of}

-- ---- the load as clap builds it

abbrev pub ready : Setting → Rule
ready s = filled (setting_rule s)

-- those without a default, and those after them
abbrev bare_rules : List Rule
bare_rules = ready workers ∷ ready children ∷ ready readers ∷ ready turns ∷ filled journal_rule ∷ []

abbrev last_rules : List Rule
last_rules = filled explain_rule ∷ filled help_rule ∷ []

abbrev pub load_rules : List Rule
load_rules = bare_rules ++ last_rules

abbrev pub load_shape : Shape
load_shape = record (new_shape (codes "load")) {
  rules = load_rules;
  is_built = true;
  disable_help_subcommand = true;
}

-- ---- one option

-- between two options
abbrev idle_at : Held → Walk
idle_at h = record { held = h; waiting = idle; position = 1; is_trailing = false; stopped = None }

-- behind a flag
abbrev wants : Setting → Held → Walk
wants s h = record {
  held = record (settled load_rules h) { pending = Some (name_of s, []) };
  waiting = option (name_of s);
  position = 1;
  is_trailing = false;
  stopped = None;
}

-- behind a flag and its number
abbrev behind : Setting → Text → Held → Held
behind s v h = record (settled load_rules h) { pending = Some (name_of s, v ∷ []) }

flag_walked : (s : Setting) (h : Held) → walked load_rules [] (idle_at h) (flag_of s) ≡ wants s h
unfolding clap_on_literals
flag_walked workers h = refl
flag_walked children h = refl
flag_walked readers h = refl
flag_walked turns h = refl

-- a word that does not begin with a hyphen is no flag
pub record IsPlain (v : Text) : Type 0 where
  pub dashes : bytes_eq v (45 ∷ 45 ∷ []) ≡ false
  pub long : long_of v ≡ None
  pub short : short_of v ≡ None

pub plain_text : (v : Text) → (get_or v 0 0 ≡ 45 → ⊥) → IsPlain v
plain_text [] other = record { dashes = refl; long = refl; short = refl }
plain_text (x ∷ xs) other =
    let no : (x == 45) ≡ false = ne_eqb x 45 other in
    record { dashes = rw no refl; long = rw no refl; short = rw no refl }

module _ (v : Text) (h : Held) (plain : IsPlain v) where
  value_walked : (s : Setting) → walked load_rules [] (wants s h) v ≡ idle_at (behind s v h)
  unfolding clap_on_literals
  value_walked workers = rw (plain.dashes, plain.long, plain.short) refl
  value_walked children = rw (plain.dashes, plain.long, plain.short) refl
  value_walked readers = rw (plain.dashes, plain.long, plain.short) refl
  value_walked turns = rw (plain.dashes, plain.long, plain.short) refl

  value_passed : (s : Setting) → turn_fault load_shape [] (wants s h) v ≡ []
  unfolding clap_on_literals
  value_passed workers = rw (plain.dashes, plain.long, plain.short) refl
  value_passed children = rw (plain.dashes, plain.long, plain.short) refl
  value_passed readers = rw (plain.dashes, plain.long, plain.short) refl
  value_passed turns = rw (plain.dashes, plain.long, plain.short) refl

flag_fault : (s : Setting) (h : Held) → turn_fault load_shape [] (idle_at h) (flag_of s) ≡ or_else (settle_fault load_rules false h) []
unfolding clap_on_literals
flag_fault workers h = refl
flag_fault children h = refl
flag_fault readers h = refl
flag_fault turns h = refl

-- ---- all options

pub or_else-nil : (a : Kinds) → or_else a [] ≡ a
or_else-nil [] = refl
or_else-nil (k ∷ ks) = refl

pub or_else-assoc : (a b c : Kinds) → or_else (or_else a b) c ≡ or_else a (or_else b c)
or_else-assoc [] b c = refl
or_else-assoc (k ∷ ks) b c = refl

run : Given → Held → Held
run [] h = h
run (p ∷ ps) h = run ps (behind p.0 (decimal p.1) h)

faults : Given → Held → Kinds
faults [] h = []
faults (p ∷ ps) h = or_else (settle_fault load_rules false h) (faults ps (behind p.0 (decimal p.1) h))

unfoldable pub AllPlain : Given → Type 0
AllPlain [] = ⊤
AllPlain (p ∷ ps) = IsPlain (decimal p.1) × AllPlain ps

walk_is : (given : Given) (h : Held) → AllPlain given → fold (walked load_rules []) (idle_at h) (words_of given) ≡ idle_at (run given h)
unfolding run AllPlain
walk_is [] h plain = refl
walk_is (p ∷ ps) h plain =
    ap (λ w. fold (walked load_rules []) (walked load_rules [] w (decimal p.1)) (words_of ps)) (flag_walked p.0 h)
    ∙ (ap (λ w. fold (walked load_rules []) w (words_of ps)) (value_walked (decimal p.1) h plain.0 p.0)
    ∙ walk_is ps (behind p.0 (decimal p.1) h) plain.1)

fault_is : (given : Given) (h : Held) → AllPlain given → walk_fault load_shape [] (idle_at h) (words_of given) ≡ faults given h
unfolding faults AllPlain walk_fault
fault_is [] h plain = refl
fault_is (p ∷ ps) h plain =
    ap₂ or_else (flag_fault p.0 h ∙ or_else-nil (settle_fault load_rules false h))
    (ap (λ w. or_else (turn_fault load_shape [] w (decimal p.1)) (walk_fault load_shape [] (walked load_rules [] w (decimal p.1)) (words_of ps))) (flag_walked p.0 h)
    ∙ (ap₂ (λ k w. or_else k (walk_fault load_shape [] w (words_of ps))) (value_passed (decimal p.1) h plain.0 p.0) (value_walked (decimal p.1) h plain.0 p.0)
    ∙ fault_is ps (behind p.0 (decimal p.1) h) plain.1))

-- ---- what each option adds, and its fault

unfoldable pub use_of : Setting × ℕ → List Row → List Row
use_of p R = used (ready p.0) (decimal p.1 ∷ []) R

unfoldable pub pair_fault : Setting × ℕ → List Row → Kinds
pair_fault p R = or_else (repeat_fault false (name_of p.0) R) (values_kinds false (Unsigned (least_of p.0) (most_of p.0)) (decimal p.1 ∷ []))

unfoldable pub pair_faults : List Row → Given → Kinds
pair_faults R [] = []
pair_faults R (p ∷ ps) = or_else (pair_fault p R) (pair_faults (use_of p R) ps)

unfoldable pub rows_from : List Row → Given → List Row
rows_from R [] = R
rows_from R (p ∷ ps) = rows_from (use_of p R) ps

settle_behind : (s : Setting) (n : ℕ) (h : Held) → settle_fault load_rules false (behind s (decimal n) h) ≡ pair_fault (s, n) (settled load_rules h).rows
unfolding pair_fault
settle_behind workers n h = refl
settle_behind children n h = refl
settle_behind readers n h = refl
settle_behind turns n h = refl

rows_behind : (s : Setting) (n : ℕ) (h : Held) → (settled load_rules (behind s (decimal n) h)).rows ≡ use_of (s, n) (settled load_rules h).rows
unfolding use_of
rows_behind workers n h = refl
rows_behind children n h = refl
rows_behind readers n h = refl
rows_behind turns n h = refl

faults_are : (given : Given) (h : Held) → or_else (faults given h) (settle_fault load_rules false (run given h))
    ≡ or_else (settle_fault load_rules false h) (pair_faults (settled load_rules h).rows given)
unfolding faults run pair_faults
faults_are [] h = sym (or_else-nil (settle_fault load_rules false h))
faults_are (p ∷ ps) h =
    let next = behind p.0 (decimal p.1) h in
    or_else-assoc (settle_fault load_rules false h) (faults ps next) (settle_fault load_rules false (run ps next))
    ∙ ap (or_else (settle_fault load_rules false h)) (faults_are ps next
    ∙ ap₂ (λ k R. or_else k (pair_faults R ps)) (settle_behind p.0 p.1 h) (rows_behind p.0 p.1 h))

rows_are : (given : Given) (h : Held) → (settled load_rules (run given h)).rows ≡ rows_from (settled load_rules h).rows given
unfolding run rows_from
rows_are [] h = refl
rows_are (p ∷ ps) h = rows_are ps (behind p.0 (decimal p.1) h) ∙ ap (λ R. rows_from R ps) (rows_behind p.0 p.1 h)

-- ---- after the walk

abbrev NoDefaults : List Rule → Type 0
NoDefaults [] = ⊤
NoDefaults (a ∷ rest) = (a.defaults ≡ []) × NoDefaults rest

no_fault : (b : Bool) (a : Rule) → a.defaults ≡ [] → (if b || is_empty a.defaults then [] else given_default_fault a a.defaults) ≡ []
no_fault true a none = refl
no_fault false a none = rw none refl

same_rows : (b : Bool) (a : Rule) (R : List Row) → a.defaults ≡ [] → (if b then R else default_rows a.id (reading_by a) a.defaults R) ≡ R
same_rows true a R none = refl
same_rows false a R none = rw none refl

defaults_none : (c more : List Rule) (R : List Row) → NoDefaults c → (defaults_fault R (c ++ more) ≡ defaults_fault R more) × (fold with_default R (c ++ more) ≡ fold with_default R more)
unfolding defaults_fault
defaults_none [] more R none = (refl, refl)
defaults_none (a ∷ rest) more R none =
    let same = same_rows (has_row a.id R) a R none.0 in
    let after = defaults_none rest more R none.1 in
    (ap₂ or_else (no_fault (has_row a.id R) a none.0) (ap (λ r. defaults_fault r (rest ++ more)) same ∙ after.0), ap (λ r. fold with_default r (rest ++ more)) same ∙ after.1)

-- the rows with that of `--explain`, which was not given
unfoldable pub explained : List Row → List Row
explained R = with_values (codes "explain") (reading_by (filled explain_rule)) DefaultValue (codes "false" ∷ []) R

module _ (R : List Row) (new : has_row (codes "explain") R ≡ false) where
  last_fault : defaults_fault R last_rules ≡ []
  unfolding clap_on_literals defaults_fault explained
  last_fault = rw new (or_else-nil _ ∙ no_fault (has_row (codes "help") (explained R)) (filled help_rule) refl)

  last_rows : fold with_default R last_rules ≡ explained R
  unfolding clap_on_literals explained
  last_rows = rw new (same_rows (has_row (codes "help") (explained R)) (filled help_rule) (explained R) refl)

  defaults_are : (defaults_fault R load_rules ≡ []) × (fold with_default R load_rules ≡ explained R)
  defaults_are =
      let none = defaults_none bare_rules last_rules R (refl, (refl, (refl, (refl, (refl, tt))))) in
      (none.0 ∙ last_fault, none.1 ∙ last_rows)

-- a required option is missing
unfoldable pub missing : List Row → Kinds
missing R = check_kinds false false (list_any (λ a. a.required && not (is_given a.id R)) load_rules)

parts : Kinds → Walk → Kinds
parts F w = or_else F (or_else (settle_fault load_rules false w.held)
    (or_else (defaults_fault (settled load_rules w.held).rows load_rules) (check_fault load_shape (finished load_rules w.held) false)))

pub leaf_fault : (given : Given) → AllPlain given → has_row (codes "explain") (rows_from [] given) ≡ false
    → level_fault load_shape [] nothing_held (words_of given) false [] ≡ or_else (pair_faults [] given) (missing (explained (rows_from [] given)))
unfolding parts missing
leaf_fault given plain new =
    let end = run given nothing_held in
    let R = (settled load_rules end).rows in
    let none = defaults_are R (ap (has_row (codes "explain")) (rows_are given nothing_held) ∙ new) in
    let parted : level_fault load_shape [] nothing_held (words_of given) false [] ≡ parts (faults given nothing_held) (idle_at end) =
    ap₂ parts (fault_is given nothing_held plain) (walk_is given nothing_held plain) in
    let tail : or_else (defaults_fault R load_rules) (check_fault load_shape (fold with_default R load_rules) false) ≡ missing (explained (rows_from [] given)) =
    ap₂ (λ k r. or_else k (check_fault load_shape r false)) none.0 (none.1 ∙ ap explained (rows_are given nothing_held)) in
    parted ∙ (sym (or_else-assoc (faults given nothing_held) (settle_fault load_rules false end) _)
    ∙ ap₂ or_else (faults_are given nothing_held) tail)

pub leaf_rows : (given : Given) → AllPlain given → has_row (codes "explain") (rows_from [] given) ≡ false
    → rows_after load_rules [] (words_of given) ≡ explained (rows_from [] given)
leaf_rows given plain new =
    let rows = rows_are given nothing_held in
    ap (λ w. finished load_rules w.held) (walk_is given nothing_held plain)
    ∙ ((defaults_are (settled load_rules (run given nothing_held)).rows (ap (has_row (codes "explain")) rows ∙ new)).1 ∙ ap explained rows)
