use Rattle.std.proofs.Common.{rules, IfErr}
use Rattle.sup_format.specs.Causes.{HasLineCause}
use Rattle.sup_script.specs.Running.Replays.{TextGives}
use Rattle.sup_script.proofs.runs.replays.answer_by.Goals.{in-Ok, in-Err}
use Rattle.sup_script.proofs.runs.replays.answer_by.Goals as goal

pub returns-clause-given : goal.returns-clause-given
returns-clause-given g c = elim c.match-make_room.branch [
  | in-Ok w ↦ search rules
  | in-Err w ↦ λ text read.
      let old = g.W.Write.contents c.args.writer.now.writer in
      let told : TextGives text old old c.match-make_room.outcome = rw w.outcome-is (w.refusal.ensures.given text c.args.sup.template old read) in
      search (rules, told)
]

pub returns-clause-cause : goal.returns-clause-cause
returns-clause-cause g c = elim c.match-make_room.branch [
  | in-Ok w ↦ search rules
  | in-Err w ↦
      let told : IfErr c.match-make_room.outcome (λ e. HasLineCause c.args.writer.now.has_refused e.fault) = rw w.outcome-is (w.refusal.ensures.cause c.args.writer.now.has_refused) in
      search (rules, told)
]
