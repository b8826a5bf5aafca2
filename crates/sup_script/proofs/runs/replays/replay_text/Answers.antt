use Rattle.std.proofs.Common.{inl}
use Rattle.std.proofs.KnownBytes.{Appends-nil}
use Rattle.std.proofs.lemmas.Result.{err_from_is_err_and}
use Rattle.sup_script.proofs.runs.replays.replay_text.Goals as goal

pub returns-in_err-template-clause-given : goal.returns-in_err-template-clause-given
returns-in_err-template-clause-given g c =
    let p = err_from_is_err_and c.from_residual.result c.from_residual.ensures.1 in
    rw (p.1, p.2) (inl (c.in_err-template.ensures.begun, c.in_err-template.ensures.fault, Appends-nil (g.W.Write.contents c.args.writer.now.writer)))

pub returns-in-Err-clause-cause : goal.returns-in-Err-clause-cause
returns-in-Err-clause-cause g c = c.refusal.ensures.cause c.args.writer.now.has_refused
