-- The reason for which a child ended.
use Rattle.std.proofs.Common.{◌≡◌, Bool, true, false, ◌||◌, refl, ap, ◌∙◌}
use Rattle.std.specs.Prelude.{Result, Ok, Err, IfOk, MatchResult}
use Rattle.futures.specs.declared.future.abortable_task.Aborted.{Aborted}
use Rattle.sup_types.specs.declared.reason.Reason.{Reason}
use Rattle.sup_exits.specs.Endings.{killed, is_crews, is_ending}
use Rattle.sup_live.specs.declared.behaviour.End.{End}
use Rattle.sup_live.specs.Ends.{EndsBy}

or-true : (a b : Bool) → b ≡ true → (a || b) ≡ true
or-true true b e = refl
or-true false b e = e

-- whatever a child's poll was ready with
pub ended_for : {C O : Type 0} (gives : C → End O → Type 0) (may_end : Reason → Bool) (child : C) (ended : Result (End O) Aborted) (reason : Reason)
    → EndsBy gives may_end child → IfOk ended (gives child) → MatchResult ended (λ e. reason ≡ e.reason) (λ _. reason ≡ killed) → is_ending may_end reason ≡ true
ended_for gives may_end child (Ok e) reason ends given is = or-true (is_crews reason) (may_end reason) (ap may_end is ∙ ends e given)
ended_for gives may_end child (Err aborted) reason ends given is = ap (is_ending may_end) is
