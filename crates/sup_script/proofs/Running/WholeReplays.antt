-- Whole replays.
use Rattle.std.proofs.Common.{◌≡◌, ℕ, ◌+◌, Bool, List, [], length, Option, Result, Ok, Err, refl, inl, inr}
use Rattle.std.proofs.KnownBytes.{Appends-nil}
use Rattle.sup_format.specs.declared.fault.Fault.{Fault}
use Rattle.sup_format.specs.declared.fault.Fault.TheVariants as fault
use Rattle.sup_format.specs.declared.fault.ScriptFault.{ScriptFault}
use Rattle.sup_format.specs.Causes.{HasReadCause, HasLineCause, HasCause}
use Rattle.sup_format.specs.Reading.HistoryReading.{HistoryStops}
use Rattle.sup_format.specs.Reading.Texts.{IsRead, IsEndedPart, lines_of}
use Rattle.sup_script.specs.Running.Replays.{TextGives, IsReplay}

module _ (remaining left contents : Option (List ℕ)) (given : List ℕ) where
  -- the reading had a fault
  pub input_faulty : (f : Fault) (number : ℕ) → IsRead remaining left given (Err f) → (front : List ℕ) × IsEndedPart given front × (number ≡ length (lines_of front) + 1) → IsReplay remaining left contents contents (Err (record { fault = f; line = number }))
  input_faulty f number r at = record {
    given = given;
    past = r.past;
    written = [];
    short = r.short;
    took = r.took;
    wrote = Appends-nil contents;
    outcome = inl (record { ended = r.ended; front = at.0; lines = at.1; line_is = at.2; none = refl });
  }

  -- what came of a text that was read to its end
  pub text_replayed : IsRead remaining left given (Ok tt) → (held : Option (List ℕ)) (result : Result (Unit {0}) ScriptFault) → TextGives given contents held result → IsReplay remaining left contents held result
  text_replayed r held (Ok u) g = record {
    given = given;
    past = r.past;
    written = _;
    short = r.short;
    took = r.took;
    wrote = g.3;
    outcome = record { ended = r.ended; template = g.0; entries = g.1; spelled = g.2; written_is = refl };
  }
  text_replayed r held (Err e) g = elim g [
    | inl stops ↦ record {
      given = given;
      past = r.past;
      written = [];
      short = r.short;
      took = r.took;
      wrote = stops.2;
      outcome = inr (inl (record { ended = r.ended; stops = stops.0; kind = stops.1; none = refl }));
    }
    | inr told ↦ record {
      given = given;
      past = r.past;
      written = told.2;
      short = r.short;
      took = r.took;
      wrote = told.4;
      outcome = inr (inr (record { ended = r.ended; template = told.0; entries = told.1; spelled = told.3; stops = told.5 }));
    }
  ]

-- ---- causes

pub read_cause : (has_failed : Bool) (given : ℕ) (has_refused : Bool) (f : Fault) → HasReadCause has_failed given f → HasCause has_failed given has_refused f
read_cause has_failed given has_refused fault.OutOfMemory h = tt
read_cause has_failed given has_refused fault.BadTemplate h = tt
read_cause has_failed given has_refused fault.BadLine h = tt
read_cause has_failed given has_refused fault.ReadFault h = h
read_cause has_failed given has_refused fault.WriteFault h = absurd h
read_cause has_failed given has_refused fault.TooLong h = h

pub text_cause : (has_refused : Bool) (bytes : List ℕ) (number : ℕ) (f : Fault) → HistoryStops bytes number f → HasLineCause has_refused f
text_cause has_refused bytes number fault.OutOfMemory h = tt
text_cause has_refused bytes number fault.BadTemplate h = tt
text_cause has_refused bytes number fault.BadLine h = tt
text_cause has_refused bytes number fault.ReadFault h = absurd h
text_cause has_refused bytes number fault.WriteFault h = absurd h
text_cause has_refused bytes number fault.TooLong h = absurd h
