-- One exit more is listed.
use Rattle.std.proofs.Common.{rules, [], ◌∷◌, ◌++◌, ap, sym, ◌∙◌, slice_index_or}
use Rattle.sup_types.specs.declared.history.Operation.TheVariants.{Exit}
use Rattle.sup_live.proofs.Led.{listed_more}
use Rattle.sup_live.proofs.lead.list.Goals as goal

pub loop-at-preserved : goal.loop-at-preserved
loop-at-preserved g c =
    let i = c.loop-at.invariant in
    let items = c.args.held.now.items in
    let e = c.exit-child.ensures in
    let is = e ∙ c.index.ensures ∙ ap (slice_index_or items c.loop-at.at) (sym e) in
    record {
      items = c.push_back_reserved.ensures.items ∙ ap (λ l. l ++ Exit c.exit-child.result.child.number c.exit-child.result.reason ∷ []) i.items ∙ listed_more items c.loop-at.at c.exit-child.result (search rules) is;
      room = search rules;
    }
