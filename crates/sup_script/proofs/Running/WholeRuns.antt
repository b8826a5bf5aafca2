-- Whole runs.
use Rattle.std.proofs.Common.{◌≡◌, ℕ, ◌+◌, ◌<◌, ◌≤◌, List, [], ◌∷◌, ◌++◌, length, Option, Ok, Err, refl, sym, ap, subst, ◌∙◌, append_assoc, append-nil, inl, inr, arith}
use Rattle.std.specs.Io.KnownBytes.{Appends, Consumes, Keeps, IsAtEnd}
use Rattle.std.proofs.KnownBytes.{Appends-trans, Consumes-trans, Consumes-kept}
use Rattle.std.proofs.lemmas.List.{length-append}
use Rattle.sup_core.specs.State.{State}
use Rattle.sup_format.specs.declared.fault.Fault.{Fault}
use Rattle.sup_format.specs.declared.fault.Fault.TheVariants as fault
use Rattle.sup_format.specs.declared.fault.ScriptFault.{ScriptFault}
use Rattle.sup_script.specs.Running.Script.{Answering, Answers}
use Rattle.sup_format.specs.Reading.Texts.{lines_of, IsFull, EndsReading, IsEndedPart}
use Rattle.sup_script.specs.Running.Answering.{IsAnsweredTo, LinesGive}
use Rattle.sup_script.specs.Running.Pieces.{IsPieceAnswered}
use Rattle.sup_script.specs.Running.Runs.{IsRun}
use Rattle.sup_format.specs.Reading.Words.{Lacks}
use Rattle.sup_script.proofs.Running.LineByLine.{answers_of}
use Rattle.sup_format.specs.LineLaws.{lines-append, full-both, some_lines}

-- that many bytes were read: the ended lines, which are answered, and the part of a line
pub record IsReadTo (answer : Answering) (remaining left contents held : Option (List ℕ)) (part : List ℕ) (sup : Option State) (next given : ℕ) : Type 0 where
  pub done : List ℕ
  pub full : IsFull done
  pub lacks : Lacks 10 part
  pub took : Consumes remaining left (done ++ part)
  pub count : given ≡ length (done ++ part)
  pub written : List ℕ
  pub wrote : Appends contents held written
  pub so_far : IsAnsweredTo answer (lines_of done) written sup next

some_text : (text : List ℕ) → length (lines_of text) ≡ 0 → text ≡ []
some_text [] none = refl
some_text (b ∷ bs) none = let some = some_lines b bs in absurd (omega arith)

no_answers : (answer : Answering) (lines : List (List ℕ)) (written : List ℕ) → length lines ≡ 0 → Answers answer lines written → written ≡ []
no_answers answer [] written none a = a
no_answers answer (line ∷ lines) written none a = absurd (omega arith)

ended_front : (done rest : List ℕ) → IsFull done → Lacks 10 rest → IsEndedPart (done ++ rest) done
ended_front done rest full lacks = record { rest = rest; parts = refl; unended = lacks; ended = full }

module _ (answer : Answering) (remaining left contents held : Option (List ℕ)) (part : List ℕ) (sup : Option State) (next given : ℕ) (r : IsReadTo answer remaining left contents held part sup next given) (short : given ≤ 16777216) where
  -- the reading has a fault
  pub reading_stops : (left' : Option (List ℕ)) (e : ScriptFault) (f : Fault) → e.fault ≡ f → e.line ≡ next → Keeps left left' → EndsReading left' (r.done ++ part) [] (Err f) → IsRun answer remaining left' contents held (Err e)
  reading_stops left' e f fault_is line_is kept ends = record {
    given = r.done ++ part;
    past = [];
    written = r.written;
    short = omega (arith, r.count);
    took = rw (append-nil (r.done ++ part)) (Consumes-kept remaining left left' (r.done ++ part) r.took kept);
    wrote = r.wrote;
    outcome = inr (inr (record {
      ended = rw fault_is ends;
      front = r.done;
      lines = ended_front r.done part r.full r.lacks;
      answered = answers_of answer (lines_of r.done) r.written sup next r.so_far;
      line_is = line_is ∙ r.so_far.next_is;
    }));
  }

  -- the input ends
  module _ (left' held' : Option (List ℕ)) (sup' : Option State) (next' : ℕ) (took : Consumes left left' []) (end : IsAtEnd left') where
    whole_took : Consumes remaining left' ((r.done ++ part) ++ [])
    whole_took = Consumes-trans remaining left left' (r.done ++ part) [] r.took took

    lines_are : lines_of (r.done ++ part) ≡ lines_of r.done ++ lines_of part
    lines_are = lines-append r.done part r.full

    pub ends_faulty : (e : ScriptFault) → LinesGive answer (lines_of r.done) r.written (lines_of part) sup' next' held held' (Err e) → IsRun answer remaining left' contents held' (Err e)
    ends_faulty e stops = record {
      given = r.done ++ part;
      past = [];
      written = r.written ++ stops.0;
      short = omega (arith, r.count);
      took = whole_took;
      wrote = Appends-trans contents held held' _ _ r.wrote stops.1;
      outcome = inl (record { ended = (refl, end); stops = inl (rw lines_are stops.2) });
    }

    pub ends_empty : (e : ScriptFault) → e.fault ≡ fault.BadLine → e.line ≡ next' → next' ≡ 1 → LinesGive answer (lines_of r.done) r.written (lines_of part) sup' next' held held' (Ok tt) → IsRun answer remaining left' contents held' (Err e)
    ends_empty e fault_is line_is one done =
        let answered : Answers answer (lines_of (r.done ++ part)) (r.written ++ done.0) = rw lines_are (answers_of answer (lines_of r.done ++ lines_of part) (r.written ++ done.0) sup' next' done.2) in
        let none : length (lines_of (r.done ++ part)) ≡ 0 = omega (arith, ap length lines_are, done.2.next_is) in
        record {
          given = r.done ++ part;
          past = [];
          written = r.written ++ done.0;
          short = omega (arith, r.count);
          took = whole_took;
          wrote = Appends-trans contents held held' _ _ r.wrote done.1;
          outcome = inl (record { ended = (refl, end); stops = inr (some_text (r.done ++ part) none, no_answers answer (lines_of (r.done ++ part)) (r.written ++ done.0) none answered, fault_is, line_is ∙ one) });
        }

    pub ends_whole : (next' ≡ 1 → ⊥) → LinesGive answer (lines_of r.done) r.written (lines_of part) sup' next' held held' (Ok tt) → IsRun answer remaining left' contents held' (Ok tt)
    ends_whole many done =
        let answered : Answers answer (lines_of (r.done ++ part)) (r.written ++ done.0) = rw lines_are (answers_of answer (lines_of r.done ++ lines_of part) (r.written ++ done.0) sup' next' done.2) in
        record {
          given = r.done ++ part;
          past = [];
          written = r.written ++ done.0;
          short = omega (arith, r.count);
          took = whole_took;
          wrote = Appends-trans contents held held' _ _ r.wrote done.1;
          outcome = record {
            ended = (refl, end);
            some = λ none. let no_lines : length (lines_of (r.done ++ part)) ≡ 0 = ap (λ (l : List ℕ). length (lines_of l)) none in many (omega (arith, ap length lines_are, done.2.next_is, no_lines));
            answered = answered;
          };
        }

  -- a piece came
  module _ (left' held' : Option (List ℕ)) (sup' : Option State) (next' : ℕ) (piece part' : List ℕ) where
    module _ (p : IsPieceAnswered answer (lines_of r.done) r.written part piece part' sup' next' held held' (Ok tt)) where
      given_is : (r.done ++ part) ++ piece ≡ (r.done ++ p.ended) ++ p.rest
      given_is = append_assoc r.done part piece ∙ ap (λ (l : List ℕ). r.done ++ l) p.parts ∙ sym (append_assoc r.done p.ended p.rest)

      so_far_is : IsAnsweredTo answer (lines_of (r.done ++ p.ended)) (r.written ++ p.lines.0) sup' next'
      so_far_is = rw (lines-append r.done p.ended r.full) p.lines.2

      pub read_more : Consumes left left' piece → IsReadTo answer remaining left' contents held' part' sup' next' (given + length piece)
      read_more took =
          let whole : (r.done ++ part) ++ piece ≡ (r.done ++ p.ended) ++ part' = given_is ∙ ap (λ (l : List ℕ). (r.done ++ p.ended) ++ l) (sym p.kept) in
          record {
            done = r.done ++ p.ended;
            full = full-both r.done p.ended r.full p.full;
            lacks = rw p.kept p.lacks;
            took = subst (Consumes remaining left') whole (Consumes-trans remaining left left' (r.done ++ part) piece r.took took);
            count = omega (arith, r.count, length-append (r.done ++ part) piece) ∙ ap length whole;
            written = r.written ++ p.lines.0;
            wrote = Appends-trans contents held held' _ _ r.wrote p.lines.1;
            so_far = so_far_is;
          }

      -- and more bytes than there is room for
      pub too_long : (e : ScriptFault) (taken past : List ℕ) → e.fault ≡ fault.TooLong → e.line ≡ next' → taken ≡ piece ++ past → 0 < length past → given + length piece ≡ 16777216 → Consumes left left' taken → IsRun answer remaining left' contents held' (Err e)
      too_long e taken past fault_is line_is parts some most took =
          let whole : (r.done ++ part) ++ taken ≡ ((r.done ++ part) ++ piece) ++ past = ap (λ (l : List ℕ). (r.done ++ part) ++ l) parts ∙ sym (append_assoc (r.done ++ part) piece past) in
          let len : length ((r.done ++ part) ++ piece) ≡ 16777216 = length-append (r.done ++ part) piece ∙ omega (arith, r.count, most) in
          record {
            given = (r.done ++ part) ++ piece;
            past = past;
            written = r.written ++ p.lines.0;
            short = omega (arith, len);
            took = subst (Consumes remaining left') whole (Consumes-trans remaining left left' (r.done ++ part) taken r.took took);
            wrote = Appends-trans contents held held' _ _ r.wrote p.lines.1;
            outcome = inr (inr (record {
              ended = rw fault_is (some, len);
              front = r.done ++ p.ended;
              lines = rw given_is (ended_front (r.done ++ p.ended) p.rest (full-both r.done p.ended r.full p.full) p.lacks);
              answered = answers_of answer (lines_of (r.done ++ p.ended)) (r.written ++ p.lines.0) sup' next' so_far_is;
              line_is = line_is ∙ so_far_is.next_is;
            }));
          }

    -- a line of it has a fault
    pub piece_stops : (e : ScriptFault) (taken past : List ℕ) → IsPieceAnswered answer (lines_of r.done) r.written part piece part' sup' next' held held' (Err e) → taken ≡ piece ++ past → given + length piece ≤ 16777216
        → (0 < length past → given + length piece ≡ 16777216) → Consumes left left' taken → IsRun answer remaining left' contents held' (Err e)
    piece_stops e taken past p parts most full took =
        let whole : (r.done ++ part) ++ taken ≡ ((r.done ++ part) ++ piece) ++ past = ap (λ (l : List ℕ). (r.done ++ part) ++ l) parts ∙ sym (append_assoc (r.done ++ part) piece past) in
        let given_is : (r.done ++ part) ++ piece ≡ (r.done ++ p.ended) ++ p.rest = append_assoc r.done part piece ∙ ap (λ (l : List ℕ). r.done ++ l) p.parts ∙ sym (append_assoc r.done p.ended p.rest) in
        record {
          given = (r.done ++ part) ++ piece;
          past = past;
          written = r.written ++ p.lines.0;
          short = omega (arith, r.count, most, length-append (r.done ++ part) piece);
          took = subst (Consumes remaining left') whole (Consumes-trans remaining left left' (r.done ++ part) taken r.took took);
          wrote = Appends-trans contents held held' _ _ r.wrote p.lines.1;
          outcome = inr (inl (record {
            front = r.done ++ p.ended;
            lines = rw given_is (ended_front (r.done ++ p.ended) p.rest (full-both r.done p.ended r.full p.full) p.lacks);
            stops = rw (lines-append r.done p.ended r.full) p.lines.2;
            within = λ some. length-append (r.done ++ part) piece ∙ omega (arith, r.count, full some);
          }));
        }
