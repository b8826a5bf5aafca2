-- A history text that is read from a stream, entry by entry.
use Rattle.std.specs.Prelude.{◌≡◌, ◌⊎◌, ℕ, ◌+◌, ◌<◌, ◌≤◌, ◌^◌, Bool, true, false, List, [], ◌∷◌, ◌++◌, length, Option, None, Some, Result, Ok, Err}
use Rattle.std.specs.Io.KnownBytes.{Consumes, IsAtEnd}
use Rattle.sup_types.specs.declared.template.Template.{Template}
use Rattle.sup_types.specs.declared.history.Entry.{Entry}
use Rattle.sup_format.specs.declared.fault.Fault.{Fault}
use Rattle.sup_format.specs.declared.fault.Fault.TheVariants as fault
use Rattle.sup_format.specs.Reading.HistoryReading.{HistoryStops, IsReadTo}
use Rattle.sup_format.specs.Reading.Texts.{IsFull}
use Rattle.sup_format.specs.Reading.Words.{Lacks}

-- what the stream has left, the ended lines that were read and not given, the part of a line after them, the number of the next
-- line, how many bytes were read, and whether the stream failed
pub record Stream : Type 0 where
  pub left : Option (List ℕ)
  pub ready : List ℕ
  pub torn : List ℕ
  pub next : ℕ
  pub taken : ℕ
  pub has_failed : Bool

-- so much of the stream was read, and no line was given
pub record IsUnread (initial : Option (List ℕ)) (s : Stream) : Type 0 where
  pub given : List ℕ
  pub took : Consumes initial s.left given
  pub count : s.taken ≡ length given
  pub parts : given ≡ s.ready ++ s.torn
  pub full : IsFull s.ready
  pub lacks : Lacks 10 s.torn
  pub first : s.next ≡ 1

-- so much of the stream was read: its ended lines are a history text with this beginning, of which the lines that were given spell
-- the template and these entries
pub record IsStreamed (initial : Option (List ℕ)) (s : Stream) (first : List ℕ) (template : Template) (entries : List Entry) : Type 0 where
  pub given : List ℕ
  pub took : Consumes initial s.left given
  pub count : s.taken ≡ length given
  pub whole : List ℕ
  pub parts : given ≡ whole ++ s.torn
  pub body : List ℕ
  pub begins : whole ≡ first ++ body
  pub full : IsFull whole
  pub lacks : Lacks 10 s.torn
  pub so_far : IsReadTo whole s.ready template entries s.next

-- why no more was read
abbrev pub HasStreamCause : Bool → Fault → Type 0
HasStreamCause has_failed fault.OutOfMemory = Unit {0}
HasStreamCause has_failed fault.BadTemplate = ⊥
HasStreamCause has_failed fault.BadLine = ⊥
HasStreamCause has_failed fault.ReadFault = has_failed ≡ true
HasStreamCause has_failed fault.WriteFault = ⊥
HasStreamCause has_failed fault.TooLong = Unit {0}

-- a line is ready, or the stream has ended, or no more was read
abbrev pub Finds : Stream → Result Bool Fault → Type 0
Finds s (Ok true) = 0 < length s.ready
Finds s (Ok false) = (s.ready ≡ []) × IsAtEnd s.left
Finds s (Err f) = (s.ready ≡ []) × HasStreamCause s.has_failed f

-- how a read ended: some bytes came, or the stream has ended, or no more was read
abbrev pub EndsFeed : Stream → List ℕ → Result Bool Fault → Type 0
EndsFeed s more (Ok true) = 0 < length more
EndsFeed s more (Ok false) = (s.ready ≡ []) × IsAtEnd s.left
EndsFeed s more (Err f) = (s.ready ≡ []) × HasStreamCause s.has_failed f

-- one read, where no line was ready
pub record IsFed (old new : Stream) (result : Result Bool Fault) : Type 0 where
  pub none : old.ready ≡ []
  pub more : List ℕ
  pub took : Consumes old.left new.left more
  pub count : new.taken ≡ old.taken + length more
  pub parts : old.torn ++ more ≡ new.ready ++ new.torn
  pub full : IsFull new.ready
  pub lacks : Lacks 10 old.torn → Lacks 10 new.torn
  pub same : new.next ≡ old.next
  pub within : new.taken ≤ 2 ^ 62
  pub ended : EndsFeed new more result

-- the next entry, or none if there is no further whole line, or a fault
abbrev pub Continues : Option (List ℕ) → Stream → List ℕ → Template → List Entry → Result (Option Entry) Fault → Type 0
Continues initial s first template entries (Ok (Some e)) = IsStreamed initial s first template (entries ++ e ∷ [])
Continues initial s first template entries (Ok None) = IsStreamed initial s first template entries × (s.ready ≡ []) × IsAtEnd s.left
Continues initial s first template entries (Err f) = (it : IsStreamed initial s first template entries) × (HistoryStops it.whole s.next f ⊎ HasStreamCause s.has_failed f)
