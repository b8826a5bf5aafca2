use Rattle.std.proofs.Common.{◌≡◌, ◌++◌, ℕ, List, Some, codes, ap, ◌∙◌}
use Rattle.std.proofs.lemmas.Bool.Decides.{Decides-eqb}
use Rattle.std.proofs.lemmas.Slice.Eq.{strip_prefix_is}
use Rattle.sup_script.proofs.Gaps.{no_gap, gap_is}
use Rattle.sup_script.proofs.starter.is_gap_at.Goals as goal

pub returns-in_default-split_once : goal.returns-in_default-split_once
returns-in_default-split_once c =
    let bytes = c.args.bytes.now in
    let numbers = c.in-Some.numbers.now in
    let whole : bytes ≡ codes "gap:" ++ numbers = strip_prefix_is Decides-eqb bytes c.as_slice.result.now (Some c.in-Some.numbers) c.in-Some.ensures.cases ∙ ap (λ (p : List ℕ). p ++ numbers) c.as_slice.ensures in
    no_gap bytes numbers c.args.moment whole c.in_default-split_once.ensures

pub returns : goal.returns
returns c =
    let bytes = c.args.bytes.now in
    let numbers = c.in-Some.numbers.now in
    let whole : bytes ≡ codes "gap:" ++ numbers = strip_prefix_is Decides-eqb bytes c.as_slice.result.now (Some c.in-Some.numbers) c.in-Some.ensures.cases ∙ ap (λ (p : List ℕ). p ++ numbers) c.as_slice.ensures in
    c.is_within.ensures ∙ gap_is bytes numbers c.args.moment whole c.in-Some-split_once.from.now c.in-Some-split_once.to.now c.in-Some-split_once.ensures
