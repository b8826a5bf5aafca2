use Rattle.std.proofs.Common.{sym, ap, ◌∙◌, rules, arith, subst}
use Rattle.sup_inbox.specs.Delivery.{opened}
use Rattle.sup_inbox.specs.Ends.{AreFrom, AreNew}
use Rattle.sup_inbox.proofs.Moves.{forks}
use Rattle.sup_inbox.specs.PostingLaws.{are_from-snoc, are_new-snoc, are_of}
use Rattle.sup_inbox.proofs.inbox.Root.split.Goals as goal

pub another-next-requires-clause-rule : goal.another-next-requires-clause-rule
another-next-requires-clause-rule g c = forks _ _ (ap (λ v. v.takes) c.loop-made.invariant.pass.2)

pub loop-made-preserved : goal.loop-made-preserved
loop-made-preserved g c =
    let i = c.loop-made.invariant in
    let a = c.another-next.ensures in
    let p = c.push_reserved.ensures in
    let id = c.args.inbox.now.id in
    record {
      pass = (a.queue.0.0 ∙ i.pass.0, a.queue.0.2 ∙ i.pass.1, a.rule.0 ∙ ap opened i.pass.2);
      posters = (
        subst (AreFrom id 1) (sym p.items) (are_from-snoc id 1 _ _ i.posters.0 (search rules) (omega (arith, i.len))),
        subst AreNew (sym p.items) (are_new-snoc _ _ i.posters.1 (ap (λ v. v.posted) a.rule.1)),
      );
      len = search rules;
      room = search rules;
    }

pub returns-clause-of : goal.returns-clause-of
returns-clause-of g c = are_of _ 1 _ c.loop-made.invariant.posters.0
