-- A number that stands at an index of the places, and what a write there does.
use Rattle.std.proofs.Common.{◌≡◌, ℕ, zero, suc, inl, inr, List, [], ◌∷◌, true, false, ◌+◌, ◌∙◌, sym, ap, subst, map, length, arith}
use Rattle.std.specs.Prelude.{◌==◌, nat_eq, Option, Some, None, slice_get, unwrap_or}
use Rattle.std.specs.List.{IsDistinct, AllByRecursion, list_any}
use Rattle.std.specs.Option.{option_map, option_map_or}
use Rattle.std.specs.Map.{keys_of, values_of, lookup, lookup_key, set_value}
use Rattle.indexmap.specs.IndexMap.{set_value_at}
use Rattle.std.proofs.lemmas.Bool.{cases_Bool, cond-true, cond-false, eqb-true, eq-eqb}
use Rattle.std.proofs.lemmas.Map.Keys.{IsDistinct-head, IsDistinct-tail}
use Rattle.sup_core.specs.declared.child.Child.{Child}
use Rattle.sup_types.specs.Status.{is_running}
use Rattle.sup_types.specs.declared.view.Status.{Status}
use Rattle.sup_types.specs.declared.view.Status.TheVariants.{Restarting}
use Rattle.sup_core.specs.Rows.{is_status, stands_as, row_at, argument_at, without, waiting_at}
use Rattle.sup_core.specs.Children.{Place, child_row, listed, running_count, one_if}
use Rattle.sup_core.proofs.PlaceLemmas.{eqb-comm, found, waits, row_at-listed, any-listed, argument-listed, without-listed, waiting-listed, live-set, running-set}

-- the number at an index that is not the first
other_at : (n k : ℕ) (ks : List ℕ) (i : ℕ) → AllByRecursion (λ m. (n == m) ≡ false) ks → slice_get ks i ≡ Some k → (n == k) ≡ false
other_at n k [] i others at = absurd (cc)
other_at n k (m ∷ ks) zero others at = ap (λ o. option_map_or (λ x. n == x) o false) (sym at) ∙ others.0
other_at n k (m ∷ ks) (suc i) others at = other_at n k ks i others.1 at

first_at : (n k : ℕ) → Some n ≡ Some k → (k == n) ≡ true
first_at n k at = eq-eqb k n (ap (λ o. unwrap_or o k) (sym at))

later_at : (n k : ℕ) (ks : List ℕ) (i : ℕ) → IsDistinct nat_eq (n ∷ ks) → slice_get ks i ≡ Some k → (k == n) ≡ false
later_at n k ks i distinct at = eqb-comm k n ∙ other_at n k ks i (IsDistinct-head nat_eq n ks distinct) at

-- its look-up finds the child there
pub lookup-index : (k : ℕ) (places : List Place) (i : ℕ) → IsDistinct nat_eq (keys_of places) → slice_get (keys_of places) i ≡ Some k
    → lookup (nat_eq k) places ≡ slice_get (values_of places) i
lookup-index k [] i distinct at = absurd (cc)
lookup-index k ((n, child) ∷ places) zero distinct at = cond-true (k == n) (Some child) (lookup (nat_eq k) places) (first_at n k at)
lookup-index k ((n, child) ∷ places) (suc i) distinct at =
    cond-false (k == n) (Some child) (lookup (nat_eq k) places) (later_at n k (keys_of places) i distinct at)
    ∙ lookup-index k places i (IsDistinct-tail nat_eq n (keys_of places) distinct) at

-- a write there is one under the number
pub set_value-index : (k : ℕ) (places : List Place) (i : ℕ) (new : Option Child) → IsDistinct nat_eq (keys_of places) → slice_get (keys_of places) i ≡ Some k
    → set_value_at places i new ≡ set_value (nat_eq k) places new
set_value-index k [] i new distinct at = absurd (cc)
set_value-index k ((n, child) ∷ places) zero new distinct at =
    sym (cond-true (k == n) ((n, new) ∷ places) ((n, child) ∷ set_value (nat_eq k) places new) (first_at n k at))
set_value-index k ((n, child) ∷ places) (suc i) new distinct at =
    ap (λ l. (n, child) ∷ l) (set_value-index k places i new (IsDistinct-tail nat_eq n (keys_of places) distinct) at)
    ∙ sym (cond-false (k == n) ((n, new) ∷ places) ((n, child) ∷ set_value (nat_eq k) places new) (later_at n k (keys_of places) i distinct at))

absent_rest : (other n : ℕ) (child : Option Child) (places : List Place) → lookup (nat_eq other) ((n, child) ∷ places) ≡ None → ((other == n) ≡ false) × (lookup (nat_eq other) places ≡ None)
absent_rest other n child places none = elim (cases_Bool (other == n)) [
  | inl same ↦ let hit : lookup (nat_eq other) ((n, child) ∷ places) ≡ Some child = cond-true (other == n) (Some child) (lookup (nat_eq other) places) same in absurd (cc)
  | inr apart ↦ (apart, sym (cond-false (other == n) (Some child) (lookup (nat_eq other) places) apart) ∙ none)
]

-- and a number at no place stays at none
pub absent-index : (other : ℕ) (places : List Place) (i : ℕ) (new : Option Child) → lookup (nat_eq other) places ≡ None → lookup (nat_eq other) (set_value_at places i new) ≡ None
absent-index other [] i new none = none
absent-index other ((n, child) ∷ places) zero new none =
    let (apart, rest) = absent_rest other n child places none in
    cond-false (other == n) (Some new) (lookup (nat_eq other) places) apart ∙ rest
absent-index other ((n, child) ∷ places) (suc i) new none =
    let (apart, rest) = absent_rest other n child places none in
    cond-false (other == n) (Some child) (lookup (nat_eq other) (set_value_at places i new)) apart ∙ absent-index other places i new rest

-- the number of a place is the one at its index
pub key-index : (places : List Place) (i n : ℕ) (child : Option Child) → slice_get places i ≡ Some (n, child) → slice_get (keys_of places) i ≡ Some n
key-index [] i n child at = absurd (cc)
key-index (place ∷ places) zero n child at = ap (option_map (λ (p : Place). p.0)) at
key-index (place ∷ places) (suc i) n child at = key-index places i n child at

-- what is found under a number has it
pub key-found : (k n : ℕ) (places : List Place) → lookup_key (nat_eq k) places ≡ Some n → n ≡ k
key-found k n [] at = absurd (cc)
key-found k n ((m, child) ∷ places) at = elim (cases_Bool (k == m)) [
  | inl same ↦ ap (λ o. unwrap_or o n) (sym at ∙ cond-true (k == m) (Some m) (lookup_key (nat_eq k) places) same) ∙ sym (eqb-true k m same)
  | inr other ↦ key-found k n places (sym (cond-false (k == m) (Some m) (lookup_key (nat_eq k) places) other) ∙ at)
]

value-index : (places : List Place) (i n : ℕ) (child : Option Child) → slice_get places i ≡ Some (n, child) → slice_get (values_of places) i ≡ Some child
value-index [] i n child at = absurd (cc)
value-index (place ∷ places) zero n child at = ap (option_map (λ (p : Place). p.1)) at
value-index (place ∷ places) (suc i) n child at = value-index places i n child at

-- the child at an index is that of its number
pub lookup-there : (k : ℕ) (places : List Place) (i : ℕ) (child : Child) → IsDistinct nat_eq (keys_of places) → slice_get places i ≡ Some (k, Some child)
    → lookup (nat_eq k) places ≡ Some (Some child)
lookup-there k places i child distinct at =
    lookup-index k places i distinct (key-index places i k (Some child) at) ∙ value-index places i k (Some child) at

-- its row, whether it has a status, and its argument
pub row-there : (k : ℕ) (places : List Place) (i : ℕ) (child : Child) → IsDistinct nat_eq (keys_of places) → slice_get places i ≡ Some (k, Some child)
    → row_at k (listed places) ≡ Some (child_row k child)
row-there k places i child distinct at =
    row_at-listed k places distinct ∙ ap (λ o. option_map (child_row k) (found o)) (lookup-there k places i child distinct at)

pub stands-at : (status : Status) (k : ℕ) (places : List Place) (i : ℕ) (child : Child) → IsDistinct nat_eq (keys_of places) → slice_get places i ≡ Some (k, Some child)
    → list_any (stands_as status k) (listed places) ≡ is_status status child.status
stands-at status k places i child distinct at =
    any-listed k (is_status status) places distinct
    ∙ ap (λ o. option_map_or (λ (c : Child). is_status status c.status) (found o) false) (lookup-there k places i child distinct at)

pub argument-at : (k : ℕ) (places : List Place) (i : ℕ) (child : Child) → IsDistinct nat_eq (keys_of places) → slice_get places i ≡ Some (k, Some child)
    → argument_at k (listed places) ≡ child.arg
argument-at k places i child distinct at = argument-listed k places child distinct (ap found (lookup-there k places i child distinct at))

-- a child that is listed at an index, and then no more
pub record Left (k : ℕ) (places : List Place) (i : ℕ) (child : Child) : Type 0 where
  pub rows : listed (set_value_at places i None) ≡ without k (listed places)
  pub live : length (listed (set_value_at places i None)) + 1 ≡ length (listed places)
  pub running : running_count (listed (set_value_at places i None)) + one_if (is_running child.status) ≡ running_count (listed places)

pub left-at : (k : ℕ) (places : List Place) (i : ℕ) (child : Child) → IsDistinct nat_eq (keys_of places) → slice_get places i ≡ Some (k, Some child)
    → Left k places i child
left-at k places i child distinct at =
    let there = lookup-there k places i child distinct at in
    let same = set_value-index k places i None distinct (key-index places i k (Some child) at) in
    let live = live-set k places (Some child) None there in
    let running = running-set k places (Some child) None there in
    record {
      rows = ap listed same ∙ without-listed k places distinct;
      live = omega (arith, ap (λ l. length (listed l)) same, live);
      running = omega (arith, ap (λ l. running_count (listed l)) same, running);
    }

-- a child with this argument that is listed at an index, and then waits
abbrev pub waiting : List ℕ → Option Child
waiting arg = Some (record { status = Restarting; arg = arg })

pub record Waiting (k : ℕ) (places : List Place) (i : ℕ) (child : Child) (arg : List ℕ) : Type 0 where
  pub rows : listed (set_value_at places i (waiting arg)) ≡ map (waiting_at k) (listed places)
  pub live : length (listed (set_value_at places i (waiting arg))) ≡ length (listed places)
  pub running : running_count (listed (set_value_at places i (waiting arg))) + one_if (is_running child.status) ≡ running_count (listed places)

pub waiting-at : (k : ℕ) (places : List Place) (i : ℕ) (child : Child) (arg : List ℕ) → IsDistinct nat_eq (keys_of places)
    → slice_get places i ≡ Some (k, Some child) → child.arg ≡ arg → Waiting k places i child arg
waiting-at k places i child arg distinct at is =
    let there = lookup-there k places i child distinct at in
    let same = set_value-index k places i (Some (waits child)) distinct (key-index places i k (Some child) at) in
    let live = live-set k places (Some child) (Some (waits child)) there in
    let running = running-set k places (Some child) (Some (waits child)) there in
    subst (Waiting k places i child) is (
    record {
      rows = ap listed same ∙ waiting-listed k places child distinct there;
      live = omega (arith, ap (λ l. length (listed l)) same, live);
      running = omega (arith, ap (λ l. running_count (listed l)) same, running);
    }
    )
