-- There was no memory for the words `script` or `replay`: the input was left alone, which is what came of it if memory ran out in its first line.
use Rattle.std.proofs.Common.{◌≡◌, ℕ, Bool, List, [], Option, refl, sym, subst, inl, inr, arith}
use Rattle.std.proofs.KnownBytes.{Appends-nil, Consumes-nil}
use Rattle.std.specs.Io.KnownBytes.{Appends}
use Rattle.std.specs.Prelude.{Err}
use Rattle.sup_format.specs.Reading.Texts.{IsEndedPart}
use Rattle.sup_format.specs.declared.fault.Fault.TheVariants as fault
use Rattle.sup_script.specs.Running.Answers.{IsReplayAnswered, IsScriptAnswered}
use Rattle.sup_script.specs.declared.runs.answer.Status.{Status}
use Rattle.sup_script.specs.declared.runs.answer.Status.TheVariants as status

none_ended : IsEndedPart [] []
none_ended = record { rest = []; parts = refl; unended = λ k d below. absurd (omega (arith, below)); ended = λ some. absurd (omega (arith, some)) }

module _ (remaining contents held : Option (List ℕ)) (has_failed : Bool) (given : ℕ) (has_refused : Bool) (s : Status) (same : held ≡ contents) (is : s ≡ status.OtherFault) where
  none_written : Appends contents held []
  none_written = subst (λ (h : Option (List ℕ)). Appends contents h []) (sym same) (Appends-nil contents)

  pub script_unread : IsScriptAnswered remaining remaining contents held has_failed given has_refused s
  script_unread = record {
    outcome = Err (record { fault = fault.OutOfMemory; line = 1 });
    run = record {
      given = [];
      past = [];
      written = [];
      short = omega arith;
      took = Consumes-nil remaining;
      wrote = none_written;
      outcome = inr (inr (record { ended = refl; front = []; lines = none_ended; answered = refl; line_is = refl }));
    };
    cause = tt;
    status_is = is;
  }

  pub replay_unread : IsReplayAnswered remaining remaining contents held has_failed given has_refused s
  replay_unread = record {
    outcome = Err (record { fault = fault.OutOfMemory; line = 1 });
    replay = record {
      given = [];
      past = [];
      written = [];
      short = omega arith;
      took = Consumes-nil remaining;
      wrote = none_written;
      outcome = inl (record { ended = refl; front = []; lines = none_ended; line_is = refl; none = refl });
    };
    cause = tt;
    status_is = is;
  }
