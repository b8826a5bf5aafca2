use Rattle.std.proofs.Common.{ℕ, IfOk, IfErr, subst}
use Rattle.sup_types.specs.declared.template.Template.{Template}
use Rattle.sup_desk.specs.Journals.{HasJust}
use Rattle.sup_desk.specs.Recoveries.{IsCauseOf}
use Rattle.sup_desk.proofs.program.on_journaled_desk.Goals as goal

pub returns : goal.returns
returns g c = record {
  journal = subst
      (λ (t : Template). IfOk c.run_recorded.result (λ p. HasJust (g.J.Journal.has p.1.journal t) (g.J.Journal.is_torn p.1.journal t) g.J.Journal.may_fail p.1.fault p.1.ticket.front))
      c.in_ok-ground.ensures.ok.0
      c.run_recorded.ensures.journal;
  err = subst
      (λ (n : ℕ). IfErr c.run_recorded.result (λ f. IsCauseOf f c.args.template n c.args.entries.now))
      c.in_ok-ground.ensures.ok.1
      (subst
      (λ (t : Template). IfErr c.run_recorded.result (λ f. IsCauseOf f t c.in_ok-ground.ground.handles c.args.entries.now))
      c.in_ok-ground.ensures.ok.0
      c.run_recorded.ensures.err);
}
