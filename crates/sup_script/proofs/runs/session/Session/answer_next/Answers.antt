use Rattle.std.proofs.lemmas.Grind.{common_steps}
use Rattle.std.proofs.Common.{◌≡◌, ℕ, List, [], ◌∷◌, ◌++◌, length, ap, ◌∙◌, arith}
use Rattle.sup_script.proofs.Running.LineByLine.{waits_more}
use Rattle.sup_script.proofs.runs.session.Session.answer_next.Goals as goal

pub returns-clause-given : goal.returns-clause-given
returns-clause-given g c = λ front written w.
    let ends = c.args.self.now.outbox.ends.items in
    let bytes = c.answer_line-answered.new.out.items in
    let counted : c.len-end.result ≡ length bytes = omega (arith, c.len-end.ensures, c.answer_line-answered.new.out.ok.0) in
    let pushed : c.push.new.self.items ≡ ends ++ length bytes ∷ [] =
    (rw c.unwrap.ensures at c.push.ensures.items) ∙ ap (λ (l : List ℕ). l ++ c.len-end.result ∷ []) c.reserve.ensures.items ∙ ap (λ n. ends ++ n ∷ []) counted in
    rw pushed (waits_more g.S.FixedStarter.answer front c.args.line.now written c.args.self.now.outbox.bytes.items bytes ends c.args.self.now.supervisor c.answer_line-answered.new.supervisor c.args.self.now.next
    w (c.in_default.ensures.given front _ _ w.so_far))

pub returns-in-Err-clause-bytes : goal.returns-in-Err-clause-bytes
returns-in-Err-clause-bytes g c = grind (arith, common_steps)
