use Rattle.std.proofs.Common.{sym, ap}
use Rattle.sup_inbox.proofs.Moves.{pushes}
use Rattle.sup_inbox.proofs.inbox.Poster.post.Goals as goal

pub push_as-requires-clause-rule : goal.push_as-requires-clause-rule
push_as-requires-clause-rule g c =
    let is = c.self.invariant.1 in
    (pushes _ _ _ _ (ap (λ v. v.posts) is) (sym (ap (λ v. v.poster) is)), λ items views h at. tt)
