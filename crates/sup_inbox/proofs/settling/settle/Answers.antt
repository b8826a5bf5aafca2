use Rattle.std.proofs.Common.{rules, [], ◌++◌, map, sym, ap, ◌∙◌, subst}
use Rattle.sup_inbox.specs.Delivery.{taker_view, IsSettled}
use Rattle.sup_inbox.specs.Ends.{sent_of}
use Rattle.sup_inbox.specs.PostingLaws.{each_settled, others_settled, every_settled, settled_at}
use Rattle.sup_inbox.proofs.settling.settle.Goals as goal

pub returns-clause-each : goal.returns-clause-each
returns-clause-each g c =
    let e = c.gather-pass.ensures.gathered in
    let n = ap (λ t. t.posters) c.taker.view_is ∙ sym c.requires.posters.1 in
    let now = settled_at _ _ _ _ _ _ _ e n (ap (λ t. t.taken) c.taker.view_is) c.empty-left.ensures in
    each_settled _ _ (subst (λ m. IsSettled (taker_view m (c.args.taker.taken ++ c.empty-left.result.items) (map sent_of c.args.posters.items)) []) c.args.posters.ok.0 now)

pub returns-clause-others : goal.returns-clause-others
returns-clause-others g c =
    let e = c.gather-pass.ensures.gathered in
    let n = ap (λ t. t.posters) c.taker.view_is ∙ sym c.requires.posters.1 in
    others_settled _ _ _ (settled_at _ _ _ _ _ _ _ e n (ap (λ t. t.taken) c.taker.view_is) c.empty-left.ensures)

pub returns-clause-every : goal.returns-clause-every
returns-clause-every g c =
    let e = c.gather-pass.ensures.gathered in
    let n = ap (λ t. t.posters) c.taker.view_is ∙ sym c.requires.posters.1 in
    let now = settled_at _ _ _ _ _ _ _ e n (ap (λ t. t.taken) c.taker.view_is) c.empty-left.ensures in
    every_settled _ _ (subst (λ m. IsSettled (taker_view m (c.args.taker.taken ++ c.empty-left.result.items) (map sent_of c.args.posters.items)) []) c.args.posters.ok.0 now)

pub returns-then-is_err-clause-room : goal.returns-then-is_err-clause-room
returns-then-is_err-clause-room g c = search rules
