-- An entry that can't take the supervisor down keeps it up, so who remains need not be known.
use Rattle.std.proofs.Common.{arith, ◌∙◌, ap, Bool}
use Rattle.std.specs.Prelude.{if◌then◌else◌}
use Rattle.std.proofs.lemmas.Grind.{common_steps}
use Rattle.sup_core.specs.State.{seen_of}
use Rattle.sup_c.specs.Spelled.{spelled_entry}
use Rattle.sup_c.specs.Held.{state_of, left_of}
use Rattle.sup_c.proofs.Staying.{stays_up, listed_is}
use Rattle.sup_c.proofs.sup_step_at.Goals as goal

pub returns-clause-left : goal.returns-clause-left
returns-clause-left c = λ _. let stays = stays_up (state_of c.args.held.now) (spelled_entry c.args.entry.now) in grind (arith, common_steps, stays)

pub returns-clause-which : goal.returns-clause-which
returns-clause-which c = λ done history after down.
    let s = state_of c.args.held.now in
    returns-clause-left c done ∙ ap (λ (b : Bool). if b then seen_of s s.rows else left_of c.args.held.now) down ∙ listed_is s history after

pub returns-clause-tokens : goal.returns-clause-tokens
returns-clause-tokens c = λ _. (grind (arith, common_steps), λ number. (let followed = c.follow.ensures.tokens number in grind (arith, common_steps, followed)))
