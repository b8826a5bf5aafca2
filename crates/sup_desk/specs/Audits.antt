-- Many handles of one desk, and what is known of them once they have all seen its whole history.
use Rattle.std.specs.Prelude.{◌≡◌, ℕ, ◌+◌, ◌<◌, List, length, slice_index_or}
use mathlib.Core.List.{IsPrefix}
use Rattle.sup_types.specs.declared.history.Entry.{Entry}
use Rattle.sup_desk.specs.Knowledge.{Knowledge, entries_of}

-- handle 1, handle 2, .., in the order of making
abbrev pub AreNumbered : List Knowledge → Type 0
AreNumbered handles = (k : ℕ) (d : Knowledge) → k < length handles → (slice_index_or handles k d).number ≡ k + 1

-- the handle may have seen more, and its calls are as they were
pub record IsGrown (old new : Knowledge) : Type 0 where
  pub editions : IsPrefix old.editions new.editions
  pub front : IsPrefix old.front new.front
  pub calls : new.calls ≡ old.calls
  pub number : new.number ≡ old.number

-- each of these handles is one of those, which may have seen more
pub record AreGrown (old new : List Knowledge) : Type 0 where
  pub len : length new ≡ length old
  pub each : (k : ℕ) (d : Knowledge) → k < length old → IsGrown (slice_index_or old k d) (slice_index_or new k d)

-- the handle has seen just this history, in which its calls are all that stand under its number
pub record HasSeenAll (history : List Entry) (handle : Knowledge) : Type 0 where
  pub front : handle.front ≡ history
  pub calls : entries_of history handle.number ≡ handle.calls

-- so have the first of these handles, as many as n
abbrev pub HaveSeenAll : List Entry → List Knowledge → ℕ → Type 0
HaveSeenAll history handles n = (k : ℕ) (d : Knowledge) → k < n → HasSeenAll history (slice_index_or handles k d)
