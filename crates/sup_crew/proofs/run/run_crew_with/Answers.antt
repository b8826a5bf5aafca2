use Rattle.std.proofs.Common.{ℕ, subst}
use Rattle.sup_crew.specs.declared.plan.Plan.{Plan}
use Rattle.sup_crew.specs.Drivers.{run_of}
use Rattle.sup_crew.specs.Reports.{IsRun}
use Rattle.sup_crew.specs.Runs.{IsRunOutcome}
use Rattle.sup_crew.proofs.run.run_crew_with.Goals as goal

pub close-requires-clause-outcome : goal.close-requires-clause-outcome
close-requires-clause-outcome g c =
    let crew = c.in_ok-crew.crew in
    let may_end = g.B.Body.may_end c.args.body.now in
    let run = run_of g.N.Name.template g.N.Name.press crew.plan.moment c.args.driver.now in
    let outcome = c.in_ok-outcome.ensures.0 in (
      run,
      c.replace_with.new.dest,
      subst (λ (n : ℕ). IsRunOutcome {N = g.row.N.Denot} may_end run crew.jobs crew.inbox.id n crew.plan.children.items c.replace_with.new.dest c.in_ok-outcome.outcome)
          c.in_ok-crew.ensures.parts.1 outcome,
    )

pub returns-clause-ran : goal.returns-clause-ran
returns-clause-ran g c =
    let crew = c.in_ok-crew.crew in
    let may_end = g.B.Body.may_end c.args.body.now in
    let run = run_of g.N.Name.template g.N.Name.press crew.plan.moment c.args.driver.now in
    let outcome = c.in_ok-outcome.ensures.0 in
    let told = c.close.ensures run c.replace_with.new.dest
    (subst (λ (n : ℕ). IsRunOutcome {N = g.row.N.Denot} may_end run crew.jobs crew.inbox.id n crew.plan.children.items c.replace_with.new.dest c.in_ok-outcome.outcome)
    c.in_ok-crew.ensures.parts.1 outcome) in
    subst (λ (p : Plan). IsRun {N = g.row.N.Denot} may_end (run_of g.N.Name.template g.N.Name.press p.moment c.args.driver.now) p.children.items c.replace_with.new.dest c.close.result)
    c.in_ok-crew.ensures.crew told
