use Rattle.std.proofs.Common.{sym, subst, ◌∙◌}
use Rattle.sup_format.specs.Reading.Words.{Lacks}
use Rattle.sup_format.proofs.Reading.Streams.{rest_of}
use Rattle.sup_format.proofs.read.entries.join.Goals as goal

pub returns-clause-lacks : goal.returns-clause-lacks
returns-clause-lacks g c =
    let torn = rw (c.unwrap-4.ensures, c.clear.ensures.items) at c.extend_from_slice-4.ensures.items in
    let same = rest_of c.args.piece.now c.ended_part-ended.result.now c.ended_part-ended.ensures.rest c.ended_part-ended.ensures.parts in
    λ _. subst (Lacks 10) (sym (torn ∙ same)) c.ended_part-ended.ensures.unended
