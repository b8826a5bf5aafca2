-- How a file's text begins and ends.
use Rattle.std.proofs.Common.{◌≡◌, ℕ, ◌-◌, ◌<◌, ◌==◌, Bool, true, false, List, [], ◌∷◌, ◌++◌, length, get_or, drop, Option, Result, Ok, Err, IfErr, inl, inr, refl, sym, ap, subst, ◌∙◌, append_assoc, append-nil, arith}
use Rattle.std.specs.Prelude.{◌⊎◌}
use Rattle.std.specs.Io.{StartsWith}
use Rattle.std.specs.Io.KnownBytes.{Consumes, IsAtEnd}
use Rattle.std.proofs.KnownBytes.{starts_with_rest}
use Rattle.std.proofs.Transfers.{starts_with_of_append}
use Rattle.std.proofs.lemmas.List.{length-append}
use Rattle.sup_types.specs.declared.template.Template.{Template}
use Rattle.sup_types.specs.declared.history.Entry.{Entry}
use Rattle.sup_format.specs.Reading.History.{AreEntries, SpellsAs}
use Rattle.sup_format.specs.declared.fault.Fault.{Fault}
use Rattle.sup_format.specs.declared.fault.Fault.TheVariants as line_fault
use Rattle.sup_format.specs.Reading.HistoryReading.{HistoryStops}
use Rattle.sup_format.specs.Reading.Streams.{HasStreamCause, IsStreamed, IsUnread, Stream}
use Rattle.sup_format.specs.Reading.Texts.{IsFull, lines_of}
use Rattle.sup_format.specs.Reading.Words.{Lacks}
use Rattle.sup_format.specs.Writing.HistoryTexts.{header_line}
use Rattle.sup_format.specs.StreamLaws.{streamed_ended, streamed_spelled, unread_ended}
use Rattle.sup_format.specs.LineLaws.{full-right, lines-append, some_lines}
use Rattle.sup_desk.specs.Recoveries.{StopsAt}
use Rattle.sup_desk.specs.declared.recovery.RecoverFault.{RecoverFault}
use Rattle.sup_journal.specs.declared.fault.OpenFault.{OpenFault}
use Rattle.sup_journal.specs.declared.fault.OpenFault.TheVariants as opening
use Rattle.sup_journal.specs.Begun.{Leaves}
use Rattle.sup_journal.specs.Openings.{BeginsWith, HasFirstLine, IsCauseOf, IsContinued, IsUnbegun, IsWrongIn, StopsIn}
use Rattle.sup_journal.proofs.Firsts.{goes_on}
use Rattle.sup_journal.proofs.Lines.{within}

-- a text that begins with another one, as far as a longer one does
pub starts_longer : (text more first : List ℕ) → StartsWith text first → StartsWith (text ++ more) first
starts_longer text more first starts =
    let parts = starts_with_rest text first starts in
    let rest = drop (length first) text in
    starts_with_of_append (text ++ more) first (rest ++ more) (ap (λ (l : List ℕ). l ++ more) parts ∙ append_assoc first rest more)

-- ---- what is ready of a text, and what is torn

module _ (first ready torn : List ℕ) (full : IsFull ready) (lacks : Lacks 10 torn) (template : Template) (s : SpellsAs first template []) where
  first_full : IsFull first
  first_full = s.spelled.ended

  -- the text begins with the first line only if what is ready does
  pub ready_begins : StartsWith (ready ++ torn) first → StartsWith ready first
  ready_begins starts =
      let parts = starts_with_rest (ready ++ torn) first starts in
      let w = within first (drop (length first) (ready ++ torn)) ready torn (sym parts) first_full lacks in
      starts_with_of_append ready first w.0 w.1

  no_body : (body : List (List ℕ)) → AreEntries body [] → body ≡ []
  no_body [] are = refl
  no_body (line ∷ lines) are = absurd are

  none_left : (rest : List ℕ) → length (lines_of rest) ≡ 0 → rest ≡ []
  none_left [] none = refl
  none_left (b ∷ bs) none = let some = some_lines b bs in absurd (omega arith)

  first_is_ready : (xs rest : List ℕ) → 0 < length xs → IsFull xs → first ≡ xs ++ rest → StartsWith xs first
  first_is_ready [] rest some full_xs e = absurd (omega arith)
  first_is_ready (x ∷ xs) rest some full_xs e =
      let one : lines_of first ≡ s.spelled.first ∷ [] = s.spelled.lines ∙ ap (λ (l : List (List ℕ)). s.spelled.first ∷ l) (no_body s.spelled.body s.spelled.entries_are) in
      let cut : lines_of first ≡ lines_of (x ∷ xs) ++ lines_of rest = ap lines_of e ∙ lines-append (x ∷ xs) rest full_xs in
      let ones = ap length one in
      let cuts = ap length cut in
      let len = length-append (lines_of (x ∷ xs)) (lines_of rest) in
      let some_first = some_lines x xs in
      let none : rest ≡ [] = none_left rest (omega (arith, ones, cuts, len, some_first)) in
      let same : first ≡ x ∷ xs = e ∙ ap (λ (l : List ℕ). (x ∷ xs) ++ l) none ∙ append-nil (x ∷ xs) in
      starts_with_of_append (x ∷ xs) first [] (sym same ∙ sym (append-nil first))

  -- where a line is ready, the first line begins with the text only if what is ready begins with it
  pub first_begins : 0 < length ready → StartsWith first (ready ++ torn) → StartsWith ready first
  first_begins some starts =
      let parts = starts_with_rest first (ready ++ torn) starts in
      let rest = drop (length (ready ++ torn)) first in
      first_is_ready ready (torn ++ rest) some full (parts ∙ append_assoc ready torn rest)

-- ---- a text without a line feed

pub torn_unbegun : (torn first : List ℕ) (template : Template) → Lacks 10 torn → SpellsAs first template [] → StartsWith torn first → ⊥
torn_unbegun torn first template lacks s starts =
    let parts = starts_with_rest torn first starts in
    let w = within first (drop (length first) torn) [] torn (sym parts) s.spelled.ended lacks in
    let lines = ap length s.spelled.lines in
    let none : lines_of first ≡ [] = empty_first first w.0 w.1 in
    let nothing = ap length none in
    absurd (omega arith) where
      empty_first : (xs ys : List ℕ) → [] ≡ xs ++ ys → lines_of xs ≡ []
      empty_first [] ys e = refl
      empty_first (x ∷ xs) ys e = absurd cc

-- ---- a text of which no line was given

module _ (initial : Option (List ℕ)) (s : Stream) (template : Template) (u : IsUnread initial s) (spelled : SpellsAs (header_line template) template []) where
  pub unread_torn : s.ready ≡ [] → u.given ≡ s.torn
  unread_torn none = u.parts ∙ ap (λ (l : List ℕ). l ++ s.torn) none

  pub unbegun : s.ready ≡ [] → StartsWith (header_line template) s.torn → IsUnbegun u.given template
  unbegun none starts = (
    λ begins. torn_unbegun s.torn (header_line template) template u.lacks spelled (subst (λ (l : List ℕ). StartsWith l (header_line template)) (unread_torn none) begins),
    subst (StartsWith (header_line template)) (sym (unread_torn none)) starts,
  )

  pub other_torn : s.ready ≡ [] → ¬ StartsWith (header_line template) s.torn → ¬ HasFirstLine u.given template × ¬ StartsWith (header_line template) u.given
  other_torn none other = (
    λ begins. torn_unbegun s.torn (header_line template) template u.lacks spelled (subst (λ (l : List ℕ). StartsWith l (header_line template)) (unread_torn none) begins),
    λ starts. other (subst (StartsWith (header_line template)) (unread_torn none) starts),
  )

  pub other_ready : 0 < length s.ready → ¬ StartsWith s.ready (header_line template) → ¬ HasFirstLine u.given template × ¬ StartsWith (header_line template) u.given
  other_ready some other = (
    λ begins. other (ready_begins (header_line template) s.ready s.torn u.full u.lacks template spelled (subst (λ (l : List ℕ). StartsWith l (header_line template)) u.parts begins)),
    λ starts. other (first_begins (header_line template) s.ready s.torn u.full u.lacks template spelled some (subst (StartsWith (header_line template)) u.parts starts)),
  )

  -- the first line is wrong
  pub first_wrong : StartsWith s.ready (header_line template) → (f : Fault) → HistoryStops s.ready 1 f → StopsIn u.given template s.next s.has_failed f
  first_wrong starts f stops =
      let begins : HasFirstLine u.given template = subst (λ (l : List ℕ). StartsWith l (header_line template)) (sym u.parts) (starts_longer s.ready s.torn (header_line template) starts) in
      inl (begins, (s.ready, unread_ended initial s u, subst (λ (n : ℕ). HistoryStops s.ready n f) (sym u.first) stops))

-- ---- a text of which lines were given

module _ (initial : Option (List ℕ)) (s : Stream) (template read : Template) (entries : List Entry) (it : IsStreamed initial s (header_line template) read entries) where
  pub streamed_first : HasFirstLine it.given template
  streamed_first = starts_with_of_append it.given (header_line template) (it.body ++ s.torn) (it.parts ∙ ap (λ (l : List ℕ). l ++ s.torn) it.begins ∙ append_assoc (header_line template) it.body s.torn)

  pub streamed_all : s.ready ≡ [] → SpellsAs (header_line template) template [] → SpellsAs it.whole template entries
  streamed_all none spelled =
      goes_on it.given (header_line template) it.whole template read entries streamed_first spelled (streamed_ended initial s (header_line template) read entries it)
      (streamed_spelled initial s (header_line template) read entries it none)

  -- a torn line has no end
  pub streamed_torn : 0 < length s.torn → ¬ IsFull it.given
  streamed_torn some full =
      let torn : IsFull s.torn = full-right it.whole s.torn (subst IsFull it.parts full) in
      let last : get_or s.torn (length s.torn - 1) 0 ≡ 10 = torn some in
      let other : (get_or s.torn (length s.torn - 1) 0 == 10) ≡ false = it.lacks (length s.torn - 1) 0 (omega arith) in
      let differs : true ≡ false = subst (λ b. (b == 10) ≡ false) last other in
      absurd cc

  -- a line has a fault, or no more was read
  pub stops_in : (f : Fault) → HistoryStops it.whole s.next f ⊎ HasStreamCause s.has_failed f → StopsIn it.given template s.next s.has_failed f
  stops_in f p = elim p [
    | inl stops ↦ inl (streamed_first, (it.whole, streamed_ended initial s (header_line template) read entries it, stops))
    | inr cause ↦ inr cause
  ]

  -- the last entry that was read was refused
  pub refused_in : (before : List Entry) (entry : Entry) → entries ≡ before ++ entry ∷ [] → (f : RecoverFault) (handles : ℕ) → StopsAt f template handles before entry
      → (text : List ℕ) × Consumes initial s.left text × IsCauseOf (opening.Desk f) text template handles
  refused_in before entry e f handles stops =
      let begins : BeginsWith it.given template entries = (streamed_first, (it.whole, streamed_ended initial s (header_line template) read entries it, (s.ready, read, s.next, it.so_far))) in
      (it.given, it.took, (before, entry, subst (BeginsWith it.given template) e begins, stops))

-- ---- what comes of a file

module _ (initial : Option (List ℕ)) (s : Stream) (template : Template) (handles : ℕ) where
  -- all of it was read and entered
  pub continued : {J : Type 0} (read : Template) (entries : List Entry) (result : Result J OpenFault) → IsStreamed initial s (header_line template) read entries → s.ready ≡ [] → IsAtEnd s.left
      → SpellsAs (header_line template) template [] → ((text : List ℕ) → (0 < length s.torn → ¬ IsFull text) → IfErr result (λ f. IsCauseOf f text template handles)) → IsContinued initial template handles entries result
  continued {J} read entries (Ok j) it none end spelled cut =
      (it.given, s.left, it.took, (end, inl (streamed_first initial s template read entries it, (it.whole, streamed_ended initial s (header_line template) read entries it, streamed_all initial s template read entries it none spelled))))
  continued {J} read entries (Err f) it none end spelled cut = (it.given, s.left, it.took, cut it.given (streamed_torn initial s template read entries it))

-- ---- why the reading stopped

pub wrong_of : (text : List ℕ) (template : Template) (line : ℕ) (failed : Bool) (f g : Fault) → f ≡ g → (HasStreamCause failed g → ⊥) → StopsIn text template line failed f → IsWrongIn text template line g
wrong_of text template line failed f g e none p = elim (subst (λ (h : Fault). StopsIn text template line failed h) e p) [
  | inl wrong ↦ wrong
  | inr cause ↦ absurd (none cause)
]

-- a whole line is wrong by what its text is
pub wrong_line : (text : List ℕ) (template : Template) (line handles : ℕ) (failed : Bool) (f : Fault) → (f ≡ line_fault.BadTemplate) ⊎ (f ≡ line_fault.BadLine) → StopsIn text template line failed f
    → IsCauseOf (opening.WrongLine (record { fault = f; line = line })) text template handles
wrong_line text template line handles failed f is p = (wrong.0, sound is, wrong.1) where
  none : (f ≡ line_fault.BadTemplate) ⊎ (f ≡ line_fault.BadLine) → HasStreamCause failed f → ⊥
  none (inl e) cause = subst (λ (h : Fault). HasStreamCause failed h) e cause
  none (inr e) cause = subst (λ (h : Fault). HasStreamCause failed h) e cause

  sound : (f ≡ line_fault.BadTemplate) ⊎ (f ≡ line_fault.BadLine) → ¬ (f ≡ line_fault.OutOfMemory)
  sound (inl e) memory = absurd (cc (e, memory))
  sound (inr e) memory = absurd (cc (e, memory))

  wrong : IsWrongIn text template line f
  wrong = wrong_of text template line failed f f refl (none is) p

-- why a file that begins anew did not
pub unbegun_cause : (fault : OpenFault) (old new : Option (List ℕ)) (text : List ℕ) (template : Template) (handles : ℕ) → Leaves fault old new template → IsUnbegun text template → IsCauseOf fault text template handles
unbegun_cause opening.OutOfMemory old new text template handles left u = tt
unbegun_cause (opening.Refused fault) old new text template handles left u = u
unbegun_cause opening.InUse old new text template handles left u = absurd left
unbegun_cause (opening.File cause) old new text template handles left u = absurd left
unbegun_cause (opening.Cut cause) old new text template handles left u = absurd left
unbegun_cause (opening.WrongLine wrong) old new text template handles left u = absurd left
unbegun_cause (opening.OtherTemplate part there here) old new text template handles left u = absurd left
unbegun_cause opening.NoJournal old new text template handles left u = absurd left
unbegun_cause (opening.Desk fault) old new text template handles left u = absurd left
