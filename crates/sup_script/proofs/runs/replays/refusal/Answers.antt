use Rattle.std.proofs.Common.{[], inl}
use Rattle.std.proofs.KnownBytes.{Appends-nil}
use Rattle.sup_script.proofs.Running.Replaying.{bad_line_kind, no_supervisor}
use Rattle.sup_script.proofs.runs.replays.refusal.Goals as goal

pub returns-in-Ok-clause-given : goal.returns-in-Ok-clause-given
returns-in-Ok-clause-given c = λ text template contents read.
    let all = c.in-Ok.ensures.stops text template [] read in
    rw c.in_line.ensures (no_supervisor text c.args.rest.now template all.0 contents read all.1)

pub returns-in-Err-clause-given : goal.returns-in-Err-clause-given
returns-in-Err-clause-given c = λ text template contents read.
    inl (c.in-Err.ensures.stops text template [] read, bad_line_kind _ c.in-Err.ensures.fault, Appends-nil contents)
