use Rattle.std.proofs.Common.{length, sym, ap, ◌∙◌, subst}
use Rattle.sup_inbox.specs.declared.note.Note.{Note}
use Rattle.sup_crew.specs.declared.job.Child.{Child}
use Rattle.sup_crew.specs.Jobs.{permission}
use Rattle.sup_crew.specs.Work.{AreEnds}
use Rattle.sup_crew.proofs.Worked.{account-posted, account-back}
use Rattle.sup_crew.specs.WorkLaws.{are_ends-append}
use Rattle.sup_crew.proofs.worker.work.Goals as goal

pub returns-in-Err : goal.returns-in-Err
returns-in-Err g c =
    let i = c.loop.invariant in
    let e = c.in-Some-take.ensures.job in
    let t = ap (λ v. v.permission.taken) e in
    let p = c.in-Err.ensures in
    let x = c.run_job-note.ensures in
    record {
      of_queue = ap (λ v. v.queue) e;
      of_inbox = p.same.0 ∙ i.poster.0;
      number_is = p.same.1 ∙ i.poster.1;
      put = (ap (λ v. v.permission.parts) e ∙ ap (λ v. v.permission.parts) i.endpoint, ap (λ v. v.permission.put) e ∙ ap (λ v. v.permission.put) i.endpoint);
      account = account-back _ _ _ _ _ c.in-Err.back t p.posted.1 (λ k. record { number = (sym x.child.0 ∙ ap (λ (b : Note). b.number) (sym p.posted.0)) k; arg = (sym x.child.1 ∙ ap (λ (b : Note). b.arg) (sym p.posted.0)) k }) i.account;
      posted = subst (AreEnds (g.B.Body.may_end c.args.body.now)) (sym p.posted.1) i.ends;
      unposted = (
        subst (λ (b : Note). g.B.Body.may_end c.args.body.now b.number b.arg b.reason) (sym p.posted.0) (subst (λ (y : Child). g.B.Body.may_end c.args.body.now y.number y.arg c.run_job-note.result.reason) (λ k. record { number = sym x.child.0 k; arg = sym x.child.1 k }) x.reason),
        (
          ap (λ (b : Note). b.poster) p.posted.0 ∙ x.next.0 ∙ sym p.same.1,
          ap (λ (b : Note). b.serial) p.posted.0 ∙ x.next.1 ∙ ap (λ l. length l) (sym p.posted.1),
        ),
      );
    }

pub loop-preserved : goal.loop-preserved
loop-preserved g c =
    let i = c.loop.invariant in
    let e = c.in-Some-take.ensures.job in
    let t = ap (λ v. v.permission.taken) e in
    let p = c.in_default-post_until.ensures in
    let x = c.run_job-note.ensures in
    record {
      endpoint = e ∙ (λ k. record { queue = c.args.crew.now.jobs; permission = permission (ap (λ v. v.permission.parts) i.endpoint k) (ap (λ v. v.permission.put) i.endpoint k) (sym t k) });
      poster = (p.same.0 ∙ i.poster.0, p.same.1 ∙ i.poster.1);
      account = account-posted _ _ _ _ _ _ t p.posted (λ k. record { number = sym x.child.0 k; arg = sym x.child.1 k }) i.account;
      ends = subst (AreEnds (g.B.Body.may_end c.args.body.now)) (sym p.posted) (are_ends-append _ _ _ i.ends (subst (λ (y : Child). g.B.Body.may_end c.args.body.now y.number y.arg c.run_job-note.result.reason) (λ k. record { number = sym x.child.0 k; arg = sym x.child.1 k }) x.reason, tt));
    }
