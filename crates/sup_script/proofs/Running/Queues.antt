-- Replies that wait, and where the writing of them stops.
use Rattle.std.proofs.Common.{◌≡◌, ℕ, ◌+◌, ◌-◌, ◌<◌, ◌≤◌, List, [], ◌∷◌, ◌++◌, length, get_or, take, drop, Option, refl, sym, ap, ◌∙◌, append_assoc, append-nil, arith, inl, inr}
use Rattle.std.specs.Io.KnownBytes.{Appends}
use Rattle.std.proofs.Math.ListN.{get_or-append, get_or-eq_default}
use Rattle.std.proofs.Math.Seq.{get_or-append_seam, take-add}
use Rattle.std.proofs.lemmas.Bool.{cases_lt}
use Rattle.std.proofs.lemmas.List.{length-append, take-append-le, take_all, take_more, take-append-drop, length-take-le, length-drop}
use Rattle.sup_format.specs.declared.fault.ScriptFault.{ScriptFault}
use Rattle.sup_script.specs.Running.Stops.{IsCutShort}
use Rattle.sup_format.specs.Writing.Waiting.{IsCutAt, IsTorn}
use Rattle.sup_script.specs.Running.Queues.{IsQueue}

-- nothing waits
pub queue_none : {X : Type 0} (Texts : List X → List ℕ → Type 0) (front : List X) (written : List ℕ) → Texts front written → IsQueue Texts front written [] []
queue_none Texts front written s = record {
  whole = rw (append-nil written) s;
  first = length front;
  count = omega arith;
  start = rw (take_all (length front) front (omega arith)) s;
  marks = λ k below. absurd (omega arith);
  last = refl;
}

-- one reply more waits
pub queue_more : {X : Type 0} (Texts : List X → List ℕ → Type 0) (front : List X) (line : X) (written old more new ends : List ℕ) → IsQueue Texts front written old ends → new ≡ old ++ more → Texts (front ++ line ∷ []) (written ++ new)
    → IsQueue Texts (front ++ line ∷ []) written new (ends ++ length new ∷ [])
queue_more Texts front line written old more new ends w grown texts =
    let lines = front ++ line ∷ [] in
    let more_lines : length lines ≡ length front + 1 = length-append front (line ∷ []) in
    let more_ends : length (ends ++ length new ∷ []) ≡ length ends + 1 = length-append ends (length new ∷ []) in
    let more_bytes : length new ≡ length old + length more = ap length grown ∙ length-append old more in
    let end : get_or (ends ++ length new ∷ []) (length ends) 0 ≡ length new = get_or-append_seam ends (length new) [] 0 in
    record {
      whole = texts;
      first = w.first;
      count = omega (arith, w.count);
      start = rw (take-append-le w.first front (line ∷ []) (omega (arith, w.count))) w.start;
      marks = λ k below. elim (cases_lt k (length ends)) [
        | inl before ↦
            let mark = w.marks k before in
            let lines_same : take (w.first + k + 1) lines ≡ take (w.first + k + 1) front = take-append-le (w.first + k + 1) front (line ∷ []) (omega (arith, w.count)) in
            let end_same : get_or (ends ++ length new ∷ []) k 0 ≡ get_or ends k 0 = get_or-append ends (length new ∷ []) 0 k before in
            let bytes_same : take (get_or ends k 0) new ≡ take (get_or ends k 0) old = ap (take (get_or ends k 0)) grown ∙ take-append-le (get_or ends k 0) old more mark.inside in
            rw end_same (record { inside = omega (arith, mark.inside); answered = rw (lines_same, bytes_same) mark.answered })
        | inr past ↦
            let here : k ≡ length ends = omega arith in
            let end_is : get_or (ends ++ length new ∷ []) k 0 ≡ length new = ap (λ i. get_or (ends ++ length new ∷ []) i 0) here ∙ end in
            let all_lines : take (w.first + k + 1) lines ≡ lines = take_all (w.first + k + 1) lines (omega (arith, w.count)) in
            let all_bytes : take (length new) new ≡ new = take_all (length new) new (omega arith) in
            rw end_is (record { inside = omega arith; answered = rw (all_lines, all_bytes) texts })
      ];
      last = let index : length (ends ++ length new ∷ []) - 1 ≡ length ends = omega (arith, more_ends) in ap (λ i. get_or (ends ++ length new ∷ []) i 0) index ∙ end;
    }

-- ---- where the writing stops

-- the lines up to a number, and the one behind them
lines_next : {X : Type 0} (d : X) (front : List X) (n : ℕ) → n < length front → take (n + 1) front ≡ take n front ++ get_or front n d ∷ []
lines_next d front n below = take_more front n d below

bytes_next : (bytes : List ℕ) (n m : ℕ) → n ≤ m → take m bytes ≡ take n bytes ++ take (m - n) (drop n bytes)
bytes_next bytes n m below = let whole : m ≡ n + (m - n) = omega arith in ap (λ k. take k bytes) whole ∙ take-add n (m - n) bytes

-- a reply between two marks was cut
module _ {X : Type 0} (d : X) (Texts : List X → List ℕ → Type 0) (front : List X) (written waiting : List ℕ) (lines from taken to : ℕ) where
  pub cut_between : lines < length front → from ≤ taken → taken < to → to ≤ length waiting → Texts (take lines front) (written ++ take from waiting) → Texts (take (lines + 1) front) (written ++ take to waiting)
      → IsCutShort Texts front (lines + 1) (written ++ take taken waiting)
  cut_between below before after inside start end =
      let split = bytes_next waiting from taken before in
      let split_more = bytes_next waiting taken to (omega arith) in
      record {
        before = written ++ take from waiting;
        at = record {
          front = take lines front;
          line = get_or front lines d;
          rest = drop (lines + 1) front;
          parts = sym (take-append-drop (lines + 1) front) ∙ ap (λ (l : List X). l ++ drop (lines + 1) front) (lines_next d front lines below) ∙ append_assoc (take lines front) (get_or front lines d ∷ []) (drop (lines + 1) front);
          number_is = omega (arith, length-take-le lines front (omega arith));
          answered = start;
        };
        sent = take (taken - from) (drop from waiting);
        unsent = take (to - taken) (drop taken waiting);
        written_is = ap (λ (l : List ℕ). written ++ l) split ∙ sym (append_assoc written (take from waiting) (take (taken - from) (drop from waiting)));
        some = omega (arith, length-drop taken waiting, length-take-le (to - taken) (drop taken waiting) (omega (arith, length-drop taken waiting)));
        reply =
            let joined : (written ++ take from waiting) ++ (take (taken - from) (drop from waiting) ++ take (to - taken) (drop taken waiting)) ≡ written ++ take to waiting =
            append_assoc written (take from waiting) (take (taken - from) (drop from waiting) ++ take (to - taken) (drop taken waiting))
            ∙ ap (λ (l : List ℕ). written ++ l) (sym (append_assoc (take from waiting) (take (taken - from) (drop from waiting)) (take (to - taken) (drop taken waiting))) ∙ ap (λ (l : List ℕ). l ++ take (to - taken) (drop taken waiting)) (sym split) ∙ sym split_more) in
            rw (← lines_next d front lines below, joined) end;
      }

-- the bytes of the waiting replies were written in part
module _ {X : Type 0} (d : X) (Texts : List X → List ℕ → Type 0) (front : List X) (written waiting ends : List ℕ) (w : IsQueue Texts front written waiting ends) where
  pub torn_at : (taken whole : ℕ) → taken < length waiting → IsCutAt ends taken whole → IsCutShort Texts front (w.first + whole + 1) (written ++ take taken waiting)
  torn_at taken whole short cut =
      let below : whole < length ends = elim (cases_lt whole (length ends)) [
        | inl h ↦ h
        | inr past ↦ elim (cases_lt 0 (length ends)) [
          | inl some ↦ let last : get_or ends (length ends - 1) 0 ≤ taken = cut.before (length ends - 1) (omega arith) in absurd (omega (arith, w.last, last, short))
          | inr none ↦ let zero : get_or ends (length ends - 1) 0 ≡ 0 = get_or-eq_default ends 0 (omega arith) in absurd (omega (arith, w.last, zero, short))
        ]
      ] in
      let mark = w.marks whole below in
      elim (cases_lt 0 whole) [
        | inl some ↦
            let k = whole - 1 in
            let earlier = w.marks k (omega arith) in
            let lines_are : w.first + k + 1 ≡ w.first + whole = omega arith in
            let start : Texts (take (w.first + whole) front) (written ++ take (get_or ends k 0) waiting) = rw lines_are at earlier.answered in
            cut_between d Texts front written waiting (w.first + whole) (get_or ends k 0) taken (get_or ends whole 0) (omega (arith, w.count)) (cut.before k (omega arith)) (cut.after below) mark.inside start mark.answered
        | inr none ↦
            let zero : whole ≡ 0 = omega arith in
            let lines_are : w.first ≡ w.first + whole = omega arith in
            let start : Texts (take (w.first + whole) front) (written ++ []) = rw (append-nil written, ← lines_are) w.start in
            cut_between d Texts front written waiting (w.first + whole) 0 taken (get_or ends whole 0) (omega (arith, w.count)) (omega arith) (cut.after below) mark.inside start mark.answered
      ]

-- more lines behind
cut_more : {X : Type 0} (Texts : List X → List ℕ → Type 0) (lines more : List X) (number : ℕ) (written : List ℕ) → IsCutShort Texts lines number written → IsCutShort Texts (lines ++ more) number written
cut_more {X} Texts lines more number written c = record {
  before = c.before;
  at = record {
    front = c.at.front;
    line = c.at.line;
    rest = c.at.rest ++ more;
    parts = ap (λ (l : List X). l ++ more) c.at.parts ∙ append_assoc c.at.front (c.at.line ∷ c.at.rest) more;
    number_is = c.at.number_is;
    answered = c.at.answered;
  };
  sent = c.sent;
  unsent = c.unsent;
  some = c.some;
  written_is = c.written_is;
  reply = c.reply;
}

-- so many bytes of what waits were taken
pub torn_cut : {X : Type 0} (d : X) (Texts : List X → List ℕ → Type 0) (front more : List X) (written waiting ends : List ℕ) (next : ℕ) (old new : Option (List ℕ)) (e : ScriptFault)
    → IsQueue Texts front written waiting ends → next ≡ length front + 1 → IsTorn waiting ends old new next e → (sent : List ℕ) × Appends old new sent × IsCutShort Texts (front ++ more) e.line (written ++ sent)
torn_cut d Texts front more written waiting ends next old new e w next_is t =
    let number : e.line ≡ w.first + t.whole + 1 = omega (arith, t.line_is, w.count, next_is) in (
      take t.taken waiting,
      t.wrote,
      rw number (cut_more Texts front more (w.first + t.whole + 1) (written ++ take t.taken waiting) (torn_at d Texts front written waiting ends w t.taken t.whole t.short t.cut)),
    )
