use Rattle.std.proofs.Common.{◌≡◌, List, ◌++◌, length, take, drop, sym, ap, ◌∙◌, subst, rules, arith, append_assoc, length-append}
use Rattle.std.proofs.Math.Seq.{drop-append_seam, drop-drop}
use Rattle.std.proofs.lemmas.List.{length-drop}
use Rattle.std.specs.Prelude.{vec_items}
use Rattle.std.specs.Slice.Iter.{chunks_rest}
use Rattle.sup_types.specs.declared.text.Text.{Text}
use Rattle.sup_crew.specs.Drivers.{run_of, HasDriven}
use Rattle.sup_crew.proofs.Driven.{same_trans, batch_first}
use Rattle.sup_crew.proofs.driver.Driver.start_all.Goals as goal

pub returns-then-is_some-clause-started : goal.returns-then-is_some-clause-started
returns-then-is_some-clause-started g c before begun driven =
    let all : List Text = vec_items c.args.crew.now.plan.children in
    let i = c.loop-batch.invariant in
    let e = c.start_batch-count.ensures in
    let batch = c.in-Some.batch.now in
    let n = c.loop-batch.started in
    let k = c.start_batch-count.result.0 in
    subst (λ l. HasDriven (run_of g.N.Name.template g.N.Name.press c.args.crew.now.plan.moment before) l c.start_batch-count.new.self)
    (append_assoc begun (take n all) (take k batch) ∙ ap (λ l. begun ++ l) (batch_first all batch (chunks_rest c.next.new.self) n k (sym i.rest ∙ c.in-Some.ensures.steps.1.0) e.few))
    (e.started before (begun ++ take n all) (i.started before begun driven))

pub loop-batch-preserved : goal.loop-batch-preserved
loop-batch-preserved g c =
    let all : List Text = vec_items c.args.crew.now.plan.children in
    let i = c.loop-batch.invariant in
    let e = c.start_batch-count.ensures in
    let batch = c.in-Some.batch.now in
    let rest : List Text = chunks_rest c.next.new.self in
    let steps = c.in-Some.ensures.steps in
    let parts : drop c.loop-batch.started all ≡ batch ++ rest = sym i.rest ∙ steps.1.0 in
    let n = c.loop-batch.started in
    let k = c.start_batch-count.result.0 in
    let whole : k ≡ length batch = search rules in
    let sum = ap (λ (l : List Text). length l) parts ∙ length-append batch rest in
    let len = length-drop n all in
    let low = i.within in
    record {
      can_next = search rules;
      is_finite = tt;
      size = steps.0 ∙ i.size;
      rest = sym (drop-append_seam batch rest) ∙ ap (λ m. drop m (batch ++ rest)) (sym whole) ∙ ap (drop k) (sym parts) ∙ drop-drop k n all;
      within = omega (arith, sum, whole, len, low);
      same = same_trans c.args.self.now c.loop-batch.self c.start_batch-count.new.self i.same e.same;
      queue = e.same.0.0 ∙ i.queue;
      started = λ before begun driven.
          subst (λ l. HasDriven (run_of g.N.Name.template g.N.Name.press c.args.crew.now.plan.moment before) l c.start_batch-count.new.self)
          (append_assoc begun (take n all) (take k batch) ∙ ap (λ l. begun ++ l) (batch_first all batch rest n k parts e.few))
          (e.started before (begun ++ take n all) (i.started before begun driven));
    }
