use Rattle.std.proofs.Common.{◌≡◌, ◌++◌, ◌∙◌, arith}
use Rattle.std.proofs.lemmas.Bool.Decides.{nat_tests}
use Rattle.std.proofs.lemmas.Result.{err_from_is_err_and}
use Rattle.sup_script.proofs.Running.Pieces.{piece_kept, piece_lines}
use Rattle.sup_script.proofs.runs.session.Session.answer_piece.Goals as goal

pub returns-then-is_empty-clause-given : goal.returns-then-is_empty-clause-given
returns-then-is_empty-clause-given g c = λ front text s.
    piece_kept g.S.FixedStarter.answer front text c.args.part.now.items c.args.piece.now c.extend_from_slice.new.self.items c.args.self.now.supervisor c.args.self.now.next (g.W.Write.contents c.args.self.now.outbox.writer.now.writer)
    c.ended_part-ended.result.now c.ended_part-ended.ensures (grind (arith, nat_tests)) (rw c.unwrap.ensures at c.extend_from_slice.ensures.items) c.requires.lacks s

pub returns-in_err-answer_lines-2-clause-given : goal.returns-in_err-answer_lines-2-clause-given
returns-in_err-answer_lines-2-clause-given g c = λ front text s.
    let p = err_from_is_err_and c.from_residual-in_err-answer_lines-2.result c.from_residual-in_err-answer_lines-2.ensures.1 in
    let whole : c.as_slice.result.now ≡ c.args.part.now.items ++ c.ended_part-ended.result.now = c.as_slice.ensures.value ∙ (rw c.unwrap-2.ensures at c.extend_from_slice-2.ensures.items) in
    rw (p.1, p.2)
    (piece_lines g.S.FixedStarter.answer front text c.args.part.now.items c.args.piece.now c.extend_from_slice-2.new.self.items c.answer_lines-2.new.self.supervisor c.answer_lines-2.new.self.next (g.W.Write.contents c.args.self.now.outbox.writer.now.writer) (g.W.Write.contents c.answer_lines-2.new.self.outbox.writer.now.writer) _
    c.ended_part-ended.result.now c.ended_part-ended.ensures (grind (arith, nat_tests)) tt (rw whole at (c.in_err-answer_lines-2.ensures.given front text s)))
