-- How the reading of a history text continues, line after line.
use Rattle.std.proofs.Common.{◌≡◌, ℕ, ◌+◌, ◌<◌, ◌≤◌, List, [], ◌∷◌, ◌++◌, length, refl, sym, ap, subst, ◌∙◌, append_assoc, append-nil, arith}
use Rattle.std.proofs.lemmas.List.{length-append}
use Rattle.sup_types.specs.declared.template.Template.{Template}
use Rattle.sup_types.specs.declared.history.Entry.{Entry}
use Rattle.sup_format.specs.declared.fault.Fault.TheVariants as fault
use Rattle.sup_format.specs.Reading.Words.{IsSplit}
use Rattle.sup_format.specs.Reading.Headers.{IsFirst}
use Rattle.sup_format.specs.Reading.Texts.{lines_of, IsFull}
use Rattle.sup_format.specs.Reading.History.{AreFirstWords, EntryMeans, MeansNoEntry, AreEntries, Spells}
use Rattle.sup_format.specs.Reading.HistoryReading.{IsReadTo, AreRight, IsFaultAt, IsBadRest, HistoryStops}
use Rattle.sup_format.specs.LineLaws.{lines-split, lines-append, full-append, full-both}

pub entries_push : (lines : List (List ℕ)) (es : List Entry) (line : List ℕ) (e : Entry) → AreEntries lines es → EntryMeans line e → AreEntries (lines ++ line ∷ []) (es ++ e ∷ [])
entries_push [] [] line e s m = (m, tt)
entries_push [] (d ∷ ds) line e s m = absurd s
entries_push (l ∷ ls) [] line e s m = absurd s
entries_push (l ∷ ls) (d ∷ ds) line e s m = (s.0, entries_push ls ds line e s.1 m)

-- a line with its line feed
pub ended_line : (line : List ℕ) → IsSplit 10 (line ++ 10 ∷ []) line [] → lines_of (line ++ 10 ∷ []) ≡ line ∷ []
ended_line line split = lines-split (line ++ 10 ∷ []) line [] split

pub line_full : (line : List ℕ) → IsFull (line ++ 10 ∷ [])
line_full line = full-append line (10 ∷ []) (omega arith) (λ _. refl)

pub split_parts : (rest line after : List ℕ) → IsSplit 10 rest line after → rest ≡ (line ++ 10 ∷ []) ++ after
split_parts rest line after split = split.parts ∙ sym (append_assoc line (10 ∷ []) after)

pub split_short : (rest line after : List ℕ) → IsSplit 10 rest line after → IsSplit 10 (line ++ 10 ∷ []) line []
split_short rest line after split = record { parts = refl; first = split.first }

pub read_first_line : (text first after : List ℕ) (template : Template) → IsSplit 10 text first after → IsFirst AreFirstWords first template → IsReadTo text after template [] 2
read_first_line text first after template split is = record {
  done = first ++ 10 ∷ [];
  parts = split_parts text first after split;
  full = line_full first;
  first = first;
  body = [];
  lines = ended_line first (split_short text first after split);
  first_is = is;
  entries_are = tt;
  number_is = refl;
}

pub split_length : (text line after : List ℕ) → IsSplit 10 text line after → length text ≡ length line + (length after + 1)
split_length text line after split = omega (arith, ap length split.parts, length-append line (10 ∷ after))

module _ (text rest : List ℕ) (template : Template) (entries : List Entry) (number : ℕ) (r : IsReadTo text rest template entries number) where
  unfoldable pub read_more : (line after : List ℕ) (e : Entry) → IsSplit 10 rest line after → EntryMeans line e → IsReadTo text after template (entries ++ e ∷ []) (number + 1)
  read_more line after e split means =
      let ended = line ++ 10 ∷ [] in
      record {
        done = r.done ++ ended;
        parts = r.parts ∙ ap (λ (l : List ℕ). r.done ++ l) (split_parts rest line after split) ∙ sym (append_assoc r.done ended after);
        full = full-both r.done ended r.full (line_full line);
        first = r.first;
        body = r.body ++ line ∷ [];
        lines = lines-append r.done ended r.full ∙ ap (λ (l : List (List ℕ)). l ++ lines_of ended) r.lines ∙ ap (λ (l : List (List ℕ)). r.first ∷ (r.body ++ l)) (ended_line line (split_short rest line after split));
        first_is = r.first_is;
        entries_are = entries_push r.body entries line e r.entries_are means;
        number_is = omega (arith, r.number_is, length-append r.body (line ∷ []));
      }

  pub read_all : length rest ≡ 0 → Spells text template entries
  read_all none = whole rest none r.parts where
    whole : (rest : List ℕ) → length rest ≡ 0 → text ≡ r.done ++ rest → Spells text template entries
    whole [] n e =
        let same : text ≡ r.done = e ∙ append-nil r.done in
        record { first = r.first; body = r.body; lines = ap lines_of same ∙ r.lines; ended = subst IsFull (sym same) r.full; first_is = r.first_is; entries_are = r.entries_are }
    whole (x ∷ xs) n e = absurd (omega arith)

  -- the lines of the text are those that were read, and the remaining ones
  pub lines_left : lines_of text ≡ (r.first ∷ r.body) ++ lines_of rest
  lines_left = ap lines_of r.parts ∙ lines-append r.done rest r.full ∙ ap (λ (l : List (List ℕ)). l ++ lines_of rest) r.lines

  -- no more remains than there was
  pub rest_short : length rest ≤ length text
  rest_short = let whole = ap length r.parts in omega (arith, whole, length-append r.done rest)

  right : AreRight (lines_of r.done)
  right = rw r.lines (template, entries, r.first_is, r.entries_are)

  abbrev fault_at : IsFaultAt text number
  fault_at = record { front = r.done; rest = rest; parts = r.parts; full = r.full; right = right; number_is = omega (arith, r.number_is, ap length r.lines) }

  pub no_room : (line more : List ℕ) (e : Entry) → IsSplit 10 rest line more → EntryMeans line e → HistoryStops text number fault.OutOfMemory
  no_room line more e split means = (fault_at, line, more, e, split, means)

  pub bad_line : 0 < length rest → ((line more : List ℕ) → IsSplit 10 rest line more → MeansNoEntry line) → HistoryStops text number fault.BadLine
  bad_line some none = (fault_at, bad) where
    bad : IsBadRest (lines_of r.done) rest
    bad = rw r.lines (some, none)
