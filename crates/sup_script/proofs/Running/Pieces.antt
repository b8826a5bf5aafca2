-- Answering piece by piece.
use Rattle.std.proofs.Common.{◌≡◌, ℕ, ◌<◌, ◌==◌, false, List, [], ◌∷◌, ◌++◌, length, Option, Result, Ok, refl, sym, ap, subst, ◌∙◌, append_assoc, append-nil, arith}
use Rattle.std.specs.Prelude.{OnOk}
use Rattle.std.proofs.KnownBytes.{Appends-nil}
use Rattle.std.proofs.lemmas.List.Elements.{All-append}
use Rattle.sup_core.specs.State.{State}
use Rattle.sup_format.specs.declared.fault.ScriptFault.{ScriptFault}
use Rattle.sup_script.specs.Running.Script.{Answering}
use Rattle.sup_format.specs.Reading.Texts.{lines_of, IsEndedPart}
use Rattle.sup_script.specs.Running.Answering.{IsAnsweredTo, LinesGive}
use Rattle.sup_script.specs.Running.Pieces.{IsPieceAnswered}
use Rattle.sup_format.specs.Reading.Words.{Lacks}
use Rattle.sup_format.specs.LineLaws.{full-append}

-- ---- a piece

module _ (answer : Answering) (front : List (List ℕ)) (text part piece part' : List ℕ) (sup : Option State) (next : ℕ) (old : Option (List ℕ)) where
  -- no line was ended
  pub piece_kept : (ended : List ℕ) → IsEndedPart piece ended → length ended ≡ 0 → part' ≡ part ++ piece → Lacks 10 part → IsAnsweredTo answer front text sup next → IsPieceAnswered answer front text part piece part' sup next old old (Ok tt)
  piece_kept [] e none kept lacks s = record {
    ended = [];
    rest = part ++ piece;
    parts = refl;
    full = λ some. absurd (omega arith);
    lacks = All-append (λ b. (b == 10) ≡ false) part piece lacks (subst (Lacks 10) (sym e.parts) e.unended);
    kept = kept;
    lines = ([], Appends-nil old, rw (append-nil front, append-nil text) s);
  }
  piece_kept (b ∷ bs) e none kept lacks s = absurd (omega arith)

  -- some were
  pub piece_lines : (new : Option (List ℕ)) (result : Result (Unit {0}) ScriptFault) (ended : List ℕ) (e : IsEndedPart piece ended) → 0 < length ended → OnOk result (part' ≡ e.rest) → LinesGive answer front text (lines_of (part ++ ended)) sup next old new result
      → IsPieceAnswered answer front text part piece part' sup next old new result
  piece_lines new result ended e some kept lines = record {
    ended = part ++ ended;
    rest = e.rest;
    parts = ap (λ (l : List ℕ). part ++ l) e.parts ∙ sym (append_assoc part ended e.rest);
    full = full-append part ended some e.ended;
    lacks = e.unended;
    kept = kept;
    lines = lines;
  }
