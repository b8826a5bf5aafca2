-- The recount says the same.
use Rattle.std.proofs.Common.{◌≡◌, subst}
use Rattle.std.specs.Prelude.{IfOk}
use Rattle.sup_types.specs.declared.view.Seen.TheVariants.{Up, Down}
use Rattle.sup_core.specs.State.{State, MatchSeen, seen_of}
use Rattle.sup_core.proofs.supervisor.Sup.rows.Goals as goal

pub returns-clause-history : goal.returns-clause-history
returns-clause-history g c = λ history after.
    subst (λ (s : State). IfOk c.copied.result (λ seen. MatchSeen seen
    (λ rows. seen_of s s.rows ≡ Up rows.items) (seen_of s s.rows ≡ Down)))
    after.state c.copied.ensures.seen
