use Rattle.std.proofs.Common.{length, sym, ap, ◌∙◌}
use Rattle.sup_inbox.proofs.Moves.{settled, empties}
use Rattle.sup_inbox.proofs.settling.empty.Goals as goal

pub len_as-requires-clause-rule : goal.len_as-requires-clause-rule
len_as-requires-clause-rule g c = settled _ _ (ap (λ v. v.takes) c.requires.all.0) c.requires.all.1

pub pop_as-requires-clause-rule : goal.pop_as-requires-clause-rule
pop_as-requires-clause-rule g c =
    let i = c.loop.invariant in
    let takes = ap (λ v. v.takes) i.view in
    let all = ap (λ v. length v.gathered) i.view ∙ i.all ∙ sym (ap (λ v. v.made) i.view) in
    (empties _ _ takes all, settled _ _ takes all)
