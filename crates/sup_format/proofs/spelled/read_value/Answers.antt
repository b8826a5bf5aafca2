use Rattle.std.proofs.Common.{◌≢◌, sym, ◌∙◌, subst}
use Rattle.std.proofs.lemmas.List.{take_all}
use Rattle.std.proofs.lemmas.List.Elements.{All-more, All-same, All-contains}
use Rattle.sup_format.proofs.Reading.Commands.{texts_differ}
use Rattle.sup_format.proofs.spelled.read_value.Goals as goal

pub loop-value-preserved : goal.loop-value-preserved
loop-value-preserved g c =
    All-more (λ x. c.args.word.now ≢ g.X.Spelled.spelled x) c.values-value-items.result.now c.loop-value.value-index c.value-item.result c.loop-value-test.true c.loop-value.invariant
    (subst (λ x. c.args.word.now ≢ g.X.Spelled.spelled x) c.value-item.is (λ e. texts_differ _ _ (sym c.eq.ensures ∙ c.if-eq.false) (c.as_bytes.ensures.value ∙ c.word.ensures ∙ sym e)))

pub returns : goal.returns
returns g c = λ x. All-contains (λ x. c.args.word.now ≢ g.X.Spelled.spelled x) c.values-value-items.result.now x
    (All-same (λ x. c.args.word.now ≢ g.X.Spelled.spelled x) _ _ (sym (take_all c.loop-value.value-index c.values-value-items.result.now c.loop-value-test.false)) c.loop-value.invariant)
    (c.values-value-items.ensures x)
