-- A text that spells a value is read, unless memory is refused.
use Rattle.std.proofs.Common.{◌≡◌, ℕ, ◌+◌, ◌-◌, ◌<◌, ◌==◌, false, List, [], ◌∷◌, ◌++◌, length, get_or, take, drop, refl, sym, ap, subst, ◌∙◌, arith, eq-eqb, Option, None, Some}
use Rattle.std.specs.Prelude.{position}
use Rattle.std.proofs.lemmas.Bool.{false≢true}
use Rattle.sup_types.specs.declared.template.Template.{Template}
use Rattle.sup_types.specs.declared.history.Entry.{Entry}
use Rattle.sup_format.specs.declared.fault.Fault.{Fault}
use Rattle.sup_format.specs.declared.fault.Fault.TheVariants as fault
use Rattle.sup_format.specs.declared.read.header.Parts.{Parts}
use Rattle.sup_format.specs.Reading.Words.{Lacks, IsSplit}
use Rattle.sup_format.specs.Reading.Headers.{HasShape, IsFirst, IsOutOfRange, IsTemplateOf, CanStand}
use Rattle.sup_format.specs.Reading.Texts.{lines_of, IsFull}
use Rattle.sup_format.specs.Reading.History.{AreFirstWords, EntryMeans, AreEntries, Spells}
use Rattle.sup_format.specs.Reading.HistoryReading.{IsBadRest, HistoryStops}
use Rattle.sup_format.specs.LineLaws.{lines-split, lines-append, full-right}
use Rattle.sup_format.proofs.Reading.Commands.{first_same, rest_same}
use Rattle.sup_format.proofs.Reading.Cuts.{split_found, split_missing}
use Rattle.sup_format.proofs.Reading.OneValue.{parts_same}

-- ---- a first line

full_has : (xs : List ℕ) → 0 < length xs → IsFull xs → Lacks 10 xs → ⊥
full_has xs some full lacks =
    let here : get_or xs (length xs - 1) 0 ≡ 10 = full some in
    let other : (get_or xs (length xs - 1) 0 == 10) ≡ false = lacks (length xs - 1) 0 (omega arith) in
    false≢true (sym other ∙ ap (λ b. b == 10) here ∙ eq-eqb 10 10 refl)

split_at : (xs : List ℕ) → 0 < length xs → IsFull xs → (p : Option ℕ) → position (λ b. b == 10) xs ≡ p → (line : List ℕ) × (more : List ℕ) × IsSplit 10 xs line more
split_at xs some full (Some at) e = (take at xs, drop (at + 1) xs, split_found 10 xs at e)
split_at xs some full None e = absurd (full_has xs some full (split_missing 10 xs e))

first_split : (xs : List ℕ) → 0 < length xs → IsFull xs → (line : List ℕ) × (more : List ℕ) × IsSplit 10 xs line more
first_split xs some full = split_at xs some full (position (λ b. b == 10) xs) refl

some_of : (xs : List ℕ) (l : List ℕ) (ls : List (List ℕ)) → lines_of xs ≡ l ∷ ls → 0 < length xs
some_of [] l ls e = absurd cc
some_of (x ∷ xs) l ls e = omega arith

-- ---- a template that can be

stands : (t : Template) (p : Parts) → IsTemplateOf t p → CanStand p
stands t p is =
    let r = t.in_range in (
      (omega (arith, r.0, is.intensity), omega (arith, r.1, is.period), omega (arith, r.2, is.period), omega (arith, r.3, is.max), omega (arith, r.4, is.max), omega arith, omega arith),
      rw (sym is.restart, sym is.significant, sym is.auto_shutdown) t.fitting,
    )

template_of : (line : List ℕ) (t : Template) (q : Parts) → IsFirst AreFirstWords line t → HasShape AreFirstWords line q → IsTemplateOf t q
template_of line t q f shape =
    let same = parts_same line f.parts q f.shape shape in
    let is = f.template_is in
    record {
      restart = is.restart ∙ same.limits.restart;
      kind = is.kind ∙ same.limits.kind;
      intensity = is.intensity ∙ same.limits.intensity;
      period = is.period ∙ same.limits.period;
      max = is.max ∙ same.limits.max;
      entries = is.entries;
      significant = is.significant ∙ same.significant;
      auto_shutdown = is.auto_shutdown ∙ same.auto_shutdown;
    }

-- ---- an entry

one_of : (ls : List (List ℕ)) (line : List ℕ) (ms : List (List ℕ)) (es : List Entry) → AreEntries (ls ++ line ∷ ms) es → (e : Entry) × EntryMeans line e
one_of [] line ms [] a = absurd a
one_of [] line ms (e ∷ es) a = (e, a.0)
one_of (l ∷ ls) line ms [] a = absurd a
one_of (l ∷ ls) line ms (e ∷ es) a = one_of ls line ms es a.1

-- ---- the whole text

module _ (bytes : List ℕ) (template : Template) (entries : List Entry) (s : Spells bytes template entries) where
  no_bad_template : (front rest line more : List ℕ) → bytes ≡ front ++ rest → front ≡ [] → IsSplit 10 rest line more → IsOutOfRange AreFirstWords line → ⊥
  no_bad_template front rest line more parts none split out =
      let whole : bytes ≡ rest = parts ∙ ap (λ (l : List ℕ). l ++ rest) none in
      let first : s.first ≡ line = first_same _ _ _ _ (sym s.lines ∙ ap lines_of whole ∙ lines-split rest line more split) in
      out.unfit (stands template out.parts (template_of line template out.parts (subst (λ l. IsFirst AreFirstWords l template) first s.first_is) out.shape))

  -- the lines so far, and the remaining ones
  no_bad_line : (front rest : List ℕ) → bytes ≡ front ++ rest → IsFull front → (ls : List (List ℕ)) → lines_of front ≡ ls → IsBadRest ls rest → ⊥
  no_bad_line front rest parts full [] so_far bad =
      let lines : lines_of rest ≡ s.first ∷ s.body = sym (ap (λ (l : List (List ℕ)). l ++ lines_of rest) so_far) ∙ sym (lines-append front rest full) ∙ ap lines_of (sym parts) ∙ s.lines in
      let split = first_split rest (some_of rest s.first s.body lines) (full-right front rest (subst IsFull parts s.ended)) in
      let first : s.first ≡ split.0 = first_same _ _ _ _ (sym lines ∙ lines-split rest split.0 split.1 split.2) in
      bad split.0 split.1 split.2 s.first_is.parts (subst (λ l. HasShape AreFirstWords l s.first_is.parts) first s.first_is.shape)
  no_bad_line front rest parts full (l ∷ ls) so_far bad =
      let split = first_split rest bad.0 (full-right front rest (subst IsFull parts s.ended)) in
      let lines : s.first ∷ s.body ≡ l ∷ (ls ++ split.0 ∷ lines_of split.1) =
      sym s.lines ∙ ap lines_of parts ∙ lines-append front rest full ∙ ap (λ (k : List (List ℕ)). k ++ lines_of rest) so_far ∙ ap (λ (k : List (List ℕ)). l ∷ (ls ++ k)) (lines-split rest split.0 split.1 split.2) in
      let found = one_of ls split.0 (lines_of split.1) entries (subst (λ k. AreEntries k entries) (rest_same _ _ _ _ lines) s.entries_are) in
      bad.1 split.0 split.1 split.2 found.0 found.1

  pub only_memory : (number : ℕ) (f : Fault) → HistoryStops bytes number f → f ≡ fault.OutOfMemory
  only_memory number fault.OutOfMemory h = refl
  only_memory number fault.BadTemplate h = absurd (no_bad_template h.0.front h.0.rest h.2 h.3 h.0.parts h.1 h.4 h.5)
  only_memory number fault.BadLine h = absurd (no_bad_line h.0.front h.0.rest h.0.parts h.0.full (lines_of h.0.front) refl h.1)
  only_memory number fault.ReadFault h = absurd h
  only_memory number fault.WriteFault h = absurd h
  only_memory number fault.TooLong h = absurd h
