use Rattle.std.proofs.Common.{[], ◌∷◌, length, length-append, ap, ◌∙◌, rules, arith}
use Rattle.std.specs.Prelude.{vec_items}
use Rattle.sup_crew.specs.Jobs.{weigh, child_of, children_of}
use Rattle.sup_crew.specs.JobLaws.{weigh-append, weigh-job}
use Rattle.sup_crew.proofs.closing.read_all.Goals as goal

pub loop-preserved : goal.loop-preserved
loop-preserved g c =
    let i = c.loop.invariant in
    let e = c.in-Some-take.ensures.job in
    let job = c.in-Some-take.job in
    let t = ap (λ v. v.permission.taken) e in
    let old = c.loop.endpoint.permission.taken in
    record {
      endpoint = (ap (λ v. v.queue) e, ap (λ v. v.permission.parts) e ∙ i.endpoint.1, ap (λ v. v.permission.put) e ∙ i.endpoint.2);
      account = λ h.
          let a = ap (weigh h) t ∙ weigh-append h old (child_of job ∷ []) in
          let b = ap (λ l. weigh h (children_of l)) c.push_reserved.ensures.items ∙ weigh-job h (vec_items c.loop.left) job in
          let d = i.account h in
          omega (arith, a, b, d);
      len = let a = ap (λ l. length l) t ∙ length-append old (child_of job ∷ []) in let b = c.push_reserved.ensures.len in let d = i.len in omega (arith, a, b, d);
      room = search rules;
    }
