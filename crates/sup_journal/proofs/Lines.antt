-- What the text of a journal is read as.
use Rattle.std.proofs.Common.{◌≡◌, ℕ, ◌-◌, ◌<◌, ◌==◌, true, false, List, [], ◌∷◌, ◌++◌, length, get_or, take, Option, Some, refl, sym, ap, subst, ◌∙◌, append_assoc, append-nil, arith}
use Rattle.std.proofs.lemmas.List.{length-append, get_or_append_left}
use Rattle.sup_types.specs.declared.template.Template.{Template}
use Rattle.sup_types.specs.declared.history.Entry.{Entry}
use Rattle.sup_format.specs.Reading.Headers.{IsTemplateOf}
use Rattle.sup_format.specs.Reading.History.{Spells, SpellsAs, IsSameTemplate, template_parts}
use Rattle.sup_format.specs.Reading.Texts.{IsFull, IsEndedPart}
use Rattle.sup_format.specs.Reading.Words.{Lacks}
use Rattle.sup_format.specs.LineLaws.{full-right}
use Rattle.sup_format.specs.Writing.HistoryTexts.{SpellsFirstsOf}
use Rattle.sup_desk.specs.declared.journal.JournalFault.{JournalFault}
use Rattle.sup_desk.specs.declared.journal.JournalFault.TheVariants as end
use Rattle.sup_journal.specs.Ends.{IsStopped}
use Rattle.sup_journal.specs.Records.{IsRecorded, IsCut}

-- ---- one reading

-- that no text spells two values
abbrev pub HasOneValue : Type 0
HasOneValue = (bytes : List ℕ) (t u : Template) (es fs : List Entry) → Spells bytes t es → Spells bytes u fs → IsSameTemplate t u × (es ≡ fs)

pub read_as : HasOneValue → (held contents : Option (List ℕ)) (waiting : List ℕ) (template read : Template) (recorded ready entries : List Entry) → (r : IsRecorded held contents waiting template recorded ready) → Spells r.text read entries
    → IsTemplateOf read (template_parts template) × (entries ≡ recorded)
read_as law held contents waiting template read recorded ready entries r s =
    let one = law r.text r.spelled.written read recorded entries r.spelled.spelled s in
    let same = one.0 in
    let is = r.spelled.written_is in (
      record {
        restart = sym same.restart ∙ is.restart;
        kind = sym same.kind ∙ is.kind;
        intensity = sym same.intensity ∙ is.intensity;
        period = sym same.period ∙ is.period;
        max = sym same.max ∙ is.max;
        entries = sym same.entries ∙ is.entries;
        significant = sym same.significant ∙ is.significant;
        auto_shutdown = sym same.auto_shutdown ∙ is.auto_shutdown;
      },
      sym one.1,
    )

-- ---- the whole lines of a torn record

tail_same : (a b : ℕ) (xs ys : List ℕ) → a ∷ xs ≡ b ∷ ys → xs ≡ ys
tail_same a b xs ys e = cc

-- a byte that a text has is lacked by none that begins with it
not_lacked : (xs ys ws : List ℕ) (n : ℕ) → n < length xs → get_or xs n 0 ≡ 10 → xs ++ ys ≡ ws → Lacks 10 ws → ⊥
not_lacked xs ys ws n inside is same lacks =
    let len = length-append xs ys in
    let lens = ap length same in
    let here : get_or ws n 0 ≡ 10 = ap (λ (l : List ℕ). get_or l n 0) (sym same) ∙ get_or_append_left xs ys 0 n inside ∙ is in
    let differs : true ≡ false = subst (λ b. (b == 10) ≡ false) here (lacks n 0 (omega (arith, len, lens))) in
    absurd cc

-- a text that ends with a line feed is within the ended part of each that begins with it
pub within : (xs ys zs ws : List ℕ) → xs ++ ys ≡ zs ++ ws → IsFull xs → Lacks 10 ws → (front : List ℕ) × (zs ≡ xs ++ front) × (ys ≡ front ++ ws)
within [] ys zs ws same full lacks = (zs, refl, same)
within (x ∷ xs) ys [] ws same full lacks = absurd (not_lacked (x ∷ xs) ys ws (length (x ∷ xs) - 1) (omega arith) (full (omega arith)) same lacks)
within (x ∷ xs) ys (z ∷ zs) ws same full lacks =
    let rest = tail_same x z (xs ++ ys) (zs ++ ws) same in
    let r = within xs ys zs ws rest (full-right (x ∷ []) xs full) lacks in
    (r.0, cons_eq x z xs ys zs ws r.0 same r.1, r.2) where
      cons_eq : (x z : ℕ) (xs ys zs ws front : List ℕ) → x ∷ (xs ++ ys) ≡ z ∷ (zs ++ ws) → zs ≡ xs ++ front → z ∷ zs ≡ x ∷ (xs ++ front)
      cons_eq x z xs ys zs ws front same e = cc

-- that the first whole lines spell the first entries
abbrev pub SpellFirsts : Type 0
SpellFirsts = (text front rest : List ℕ) (template : Template) (entries more : List Entry) → SpellsAs text template entries
    → SpellsAs (text ++ (front ++ rest)) template (entries ++ more) → IsFull front → SpellsFirstsOf (text ++ front) rest template entries more

pub whole_of_cut : SpellFirsts → (held contents : Option (List ℕ)) (ended : Option JournalFault) (template : Template) (recorded ready : List Entry) (lines : List ℕ) → (r : IsCut held contents ended template recorded ready) → IsEndedPart (r.text ++ r.part) lines
    → SpellsFirstsOf lines r.left template recorded ready
whole_of_cut law held contents ended template recorded ready lines r p =
    let w = within r.text r.part lines p.rest p.parts r.spelled.spelled.ended p.unended in
    let front = w.0 in
    let full : IsFull front = full-right r.text front (subst IsFull w.1 p.ended) in
    let parts : r.part ++ r.left ≡ front ++ (p.rest ++ r.left) = ap (λ (l : List ℕ). l ++ r.left) w.2 ∙ append_assoc front p.rest r.left in
    let firsts = law r.text front (p.rest ++ r.left) template recorded ready r.spelled (subst (λ (l : List ℕ). SpellsAs (r.text ++ l) template (recorded ++ ready)) parts r.whole) full in
    let len = length-append p.rest r.left in
    record {
      count = firsts.count;
      inside = firsts.inside;
      some_left = λ some. firsts.some_left (omega (arith, len, some));
      spelled = subst (λ (l : List ℕ). SpellsAs l template (recorded ++ take firsts.count ready)) (sym w.1) firsts.spelled;
    }

pub stopped_short : (held contents : Option (List ℕ)) (ended : JournalFault) (template : Template) (recorded ready : List Entry) → (r : IsCut held contents (Some ended) template recorded ready) → IsStopped ended → 0 < length r.left
stopped_short held contents (end.Failed kind) template recorded ready r stopped = r.is_left
stopped_short held contents end.TookNothing template recorded ready r stopped = r.is_left
stopped_short held contents (end.NotFlushed kind) template recorded ready r stopped = absurd stopped

pub all_of_flush : (held contents : Option (List ℕ)) (ended : JournalFault) (template : Template) (recorded ready : List Entry) → (r : IsCut held contents (Some ended) template recorded ready) → ¬ IsStopped ended
    → SpellsAs (r.text ++ r.part) template (recorded ++ ready)
all_of_flush held contents (end.Failed kind) template recorded ready r unstopped = absurd (unstopped tt)
all_of_flush held contents end.TookNothing template recorded ready r unstopped = absurd (unstopped tt)
all_of_flush held contents (end.NotFlushed kind) template recorded ready r unstopped =
    subst (λ (l : List ℕ). SpellsAs (r.text ++ l) template (recorded ++ ready)) (ap (λ (l : List ℕ). r.part ++ l) r.is_left ∙ append-nil r.part) r.whole
