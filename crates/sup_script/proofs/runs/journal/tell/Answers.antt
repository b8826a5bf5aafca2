use Rattle.std.proofs.Common.{◌≡◌, ◌++◌, ◌∙◌, ℕ, List, length, ap, refl, inl, inr}
use Rattle.sup_core.specs.Queries.{count}
use Rattle.sup_script.specs.Running.Journals.{last_text}
use Rattle.sup_script.proofs.Running.Journaling.{keeps_same, telling_sent}
use Rattle.sup_script.proofs.runs.journal.tell.Goals as goal

pub returns-in_default : goal.returns-in_default
returns-in_default g c = λ history after.
    rw c.in_line.ensures (c.line.ensures.line, inl (refl, keeps_same (g.W.Write.contents c.args.writer.now.writer)))

pub returns : goal.returns
returns g c = λ history after.
    let text = last_text (length history) (length c.args.lines.now.torn) (count c.args.sup.now.template history) in
    let told = rw c.torn.ensures at (c.in-Ok.ensures history after) in
    let bytes : c.as_slice.result.now ≡ text = c.as_slice.ensures.value ∙ told ∙ ap (λ (l : List ℕ). l ++ text) c.new-text.ensures.items in
    rw c.in_line-in-Err.ensures (c.line-in-Err.ensures.line, inr (refl, c.in-Err.ensures.cause, telling_sent text c.as_slice.result.now c.in-Err.field-0 _ _ bytes c.in-Err.ensures.sent))
