-- The rows of a load whose numbers are each given once: they stand in the order of the words, and that of `--explain` after them.
use Rattle.std.proofs.Common.{◌≡◌, ◌∙◌, ◌++◌, ◌||◌, ℕ, Bool, true, false, List, [], ◌∷◌, Some, None, refl, sym, ap, append_assoc, append-nil, map, codes}
use Rattle.std.specs.Prelude.{decimal, find, if◌then◌else◌, option_map}
use Rattle.std.specs.Str.{bytes_eq}
use Rattle.std.proofs.lemmas.Bool.{false≢true}
use Rattle.std.proofs.lemmas.List.{map-append}
use Rattle.clap.specs.Walk.{Row, Text, at_row, has_row, more_values, used, with_values, without}
use Rattle.clap.specs.declared.builder.value_parser.Reading.TheVariants.{AsWritten}
use Rattle.clap.specs.declared.parser.matches.ValueSource.TheVariants.{CommandLine, DefaultValue}
use Rattle.sup_words.specs.Settings.{AreNew, Given, Setting, workers, children, readers, turns, name_of, number_in}
use Rattle.sup_words.proofs.Walks.{explained, ready, rows_from, use_of}

-- the row of an option and its number
unfoldable pub row_for : Setting × ℕ → Row
row_for p = record { id = name_of p.0; values = decimal p.1 ∷ []; count = None; source = Some CommandLine; reading = AsWritten }

-- settings of one name are one
pub same_setting : (a b : Setting) → bytes_eq (name_of a) (name_of b) ≡ true → a ≡ b
same_setting workers workers e = refl
same_setting workers children e = absurd (false≢true e)
same_setting workers readers e = absurd (false≢true e)
same_setting workers turns e = absurd (false≢true e)
same_setting children workers e = absurd (false≢true e)
same_setting children children e = refl
same_setting children readers e = absurd (false≢true e)
same_setting children turns e = absurd (false≢true e)
same_setting readers workers e = absurd (false≢true e)
same_setting readers children e = absurd (false≢true e)
same_setting readers readers e = refl
same_setting readers turns e = absurd (false≢true e)
same_setting turns workers e = absurd (false≢true e)
same_setting turns children e = absurd (false≢true e)
same_setting turns readers e = absurd (false≢true e)
same_setting turns turns e = refl

-- the row of an option among those of the options that are given
pub found_at : (given : Given) (s : Setting) → find (λ r. bytes_eq r.id (name_of s)) (map row_for given) ≡ option_map (λ n. row_for (s, n)) (number_in given s)
unfolding row_for
found_at [] s = refl
found_at (p ∷ ps) s = go (bytes_eq (name_of p.0) (name_of s)) refl (found_at ps s)
  where
    go : (b : Bool) → bytes_eq (name_of p.0) (name_of s) ≡ b
        → find (λ r. bytes_eq r.id (name_of s)) (map row_for ps) ≡ option_map (λ n. row_for (s, n)) (number_in ps s)
        → (if b then Some (row_for p) else find (λ r. bytes_eq r.id (name_of s)) (map row_for ps))
        ≡ option_map (λ n. row_for (s, n)) (if b then Some p.1 else number_in ps s)
    go true is rest = ap (λ (a : Setting). Some (row_for (a, p.1))) (same_setting p.0 s is)
    go false is rest = rest

-- what is added under a name that no row has stands at the end
absent_appends : (id : Text) (change : Row → List Row) (added rows : List Row) → find (λ r. bytes_eq r.id id) rows ≡ None → at_row id change added rows ≡ rows ++ added
absent_appends id change added [] none = refl
absent_appends id change added (r ∷ rs) none = go (bytes_eq r.id id) none (absent_appends id change added rs)
  where
    go : (b : Bool) → (if b then Some r else find (λ x. bytes_eq x.id id) rs) ≡ None
        → (find (λ x. bytes_eq x.id id) rs ≡ None → at_row id change added rs ≡ rs ++ added)
        → (if b then change r ++ rs else r ∷ at_row id change added rs) ≡ (r ∷ rs) ++ added
    go true none rest = cc
    go false none rest = ap (λ (xs : List Row). r ∷ xs) (rest none)

absent_row : (id : Text) (rows : List Row) → find (λ r. bytes_eq r.id id) rows ≡ None → has_row id rows ≡ false
absent_row id [] none = refl
absent_row id (r ∷ rs) none = go (bytes_eq r.id id) none (absent_row id rs)
  where
    go : (b : Bool) → (if b then Some r else find (λ x. bytes_eq x.id id) rs) ≡ None
        → (find (λ x. bytes_eq x.id id) rs ≡ None → has_row id rs ≡ false) → (b || has_row id rs) ≡ false
    go true none rest = cc
    go false none rest = rest none

module _ (before : Given) (s : Setting) (n : ℕ) (new : number_in before s ≡ None) where
  no_row : find (λ r. bytes_eq r.id (name_of s)) (map row_for before) ≡ None
  no_row = found_at before s ∙ ap (option_map (λ m. row_for (s, m))) new

  pub is_new : has_row (name_of s) (map row_for before) ≡ false
  is_new = absent_row (name_of s) (map row_for before) no_row

  -- an option that was not given before adds its row
  pub appends : use_of (s, n) (map row_for before) ≡ map row_for before ++ row_for (s, n) ∷ []
  unfolding use_of row_for
  appends = go s no_row
    where
      rows : List Row
      rows = map row_for before

      under : (id : Text) → find (λ r. bytes_eq r.id id) rows ≡ None
          → with_values id AsWritten CommandLine (decimal n ∷ []) (without id rows)
          ≡ rows ++ record { id = id; values = decimal n ∷ []; count = None; source = Some CommandLine; reading = AsWritten } ∷ []
      under id none =
          ap (with_values id AsWritten CommandLine (decimal n ∷ [])) (absent_appends id (λ _. []) [] rows none ∙ append-nil rows)
          ∙ absent_appends id (more_values CommandLine (decimal n ∷ [])) _ rows none

      go : (s : Setting) → find (λ r. bytes_eq r.id (name_of s)) rows ≡ None → used (ready s) (decimal n ∷ []) rows ≡ rows ++ row_for (s, n) ∷ []
      go workers none = under (name_of workers) none
      go children none = under (name_of children) none
      go readers none = under (name_of readers) none
      go turns none = under (name_of turns) none

-- the rows of options that are each given once
pub rows_are_table : (before after : Given) → AreNew before after → rows_from (map row_for before) after ≡ map row_for (before ++ after)
unfolding rows_from
rows_are_table before [] new = ap (map row_for) (sym (append-nil before))
rows_are_table before (p ∷ ps) new =
    ap (λ r. rows_from r ps) (appends before p.0 p.1 new.0 ∙ sym (map-append row_for before (p ∷ [])))
    ∙ (rows_are_table (before ++ p ∷ []) ps new.1 ∙ ap (map row_for) (append_assoc before (p ∷ []) ps))

-- the row of `--explain` if it is not given
unfoldable pub explain_row : Row
explain_row = record { id = codes "explain"; values = codes "false" ∷ []; count = None; source = Some DefaultValue; reading = AsWritten }

-- the rows of a load that is given numbers alone
abbrev pub table_of : Given → List Row
table_of given = map row_for given ++ explain_row ∷ []

no_explain : (given : Given) → find (λ r. bytes_eq r.id (codes "explain")) (map row_for given) ≡ None
unfolding row_for
no_explain [] = refl
no_explain ((workers, n) ∷ ps) = no_explain ps
no_explain ((children, n) ∷ ps) = no_explain ps
no_explain ((readers, n) ∷ ps) = no_explain ps
no_explain ((turns, n) ∷ ps) = no_explain ps

module _ (given : Given) (new : AreNew [] given) where
  pub unexplained : has_row (codes "explain") (rows_from [] given) ≡ false
  unexplained = ap (has_row (codes "explain")) (rows_are_table [] given new) ∙ absent_row (codes "explain") (map row_for given) (no_explain given)

  pub table : explained (rows_from [] given) ≡ table_of given
  unfolding explained explain_row
  table = ap explained (rows_are_table [] given new) ∙ absent_appends (codes "explain") (more_values DefaultValue (codes "false" ∷ [])) _ (map row_for given) (no_explain given)
