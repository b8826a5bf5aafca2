use Rattle.std.proofs.Common.{[], ◌∷◌, ap, ◌∙◌, arith}
use Rattle.sup_crew.specs.Jobs.{weigh, child_of, children_of}
use Rattle.sup_crew.specs.JobLaws.{weigh-append, weigh-job}
use Rattle.sup_crew.proofs.queue.Dispatcher.dispatch.Goals as goal

pub returns-in-Ok-clause-account : goal.returns-in-Ok-clause-account
returns-in-Ok-clause-account g c h =
    let e = ap (λ v. weigh h v.permission.put) c.in-Ok.ensures ∙ weigh-append h c.self.inside.endpoint.permission.put (child_of c.args.job ∷ []) in
    let p = ap (λ d. weigh h d.put) c.self.view_is in
    let k = ap (λ d. weigh h d.kept) c.self.view_is in
    omega (arith, e, p, k)

pub returns-in-Err-clause-account : goal.returns-in-Err-clause-account
returns-in-Err-clause-account g c h =
    let e = ap (λ v. weigh h v.permission.put) c.in-Err.ensures.1 in
    let j = ap (λ l. weigh h (children_of l)) c.push_reserved.ensures.items ∙ weigh-job h c.self.inside.kept.items c.in-Err.back in
    let b = ap (λ j. h (child_of j)) c.in-Err.ensures.0 in
    let p = ap (λ d. weigh h d.put) c.self.view_is in
    let k = ap (λ d. weigh h d.kept) c.self.view_is in
    omega (arith, e, j, b, p, k)
