-- One start more is listed.
use Rattle.std.proofs.Common.{rules, [], ◌∷◌, ◌++◌, ap, ◌∙◌}
use Rattle.sup_live.specs.Batches.{start_of}
use Rattle.sup_live.proofs.Batched.{listed_more}
use Rattle.sup_live.proofs.batch.list_starts.Goals as goal

pub loop-at-preserved : goal.loop-at-preserved
loop-at-preserved g c =
    let i = c.loop-at.invariant in
    record {
      items = c.push_back_reserved.ensures.items ∙ ap (λ l. l ++ start_of c.index.result.now ∷ []) i.items ∙ listed_more c.args.list.now.items c.loop-at.at c.index.result.now (search rules) c.index.ensures;
      room = search rules;
    }
