-- Handles that are not all of those of the desk are at hand as they were sorted, and those of an audit as the audit left them.
use Rattle.std.proofs.Common.{rules, ◌≡◌, ◌++◌, ◌∙◌, [], List, length, take, drop, ap, sym, subst, arith}
use Rattle.std.proofs.Math.Seq.{take-append_seam}
use Rattle.std.specs.Prelude.{MatchOption}
use Rattle.sup_desk.specs.Knowledge.{Knowledge}
use Rattle.sup_live.specs.Wholes.{AreAtHand, IsWhole}
use Rattle.sup_live.proofs.report.audited.Goals as goal

pub returns-clause-audited : goal.returns-clause-audited
returns-clause-audited g c =
    let all = c.in-Some.handles.items in
    let sorted = c.sort_unstable_by_key.new.self in
    let after = c.audit.new.handles in
    let rest = drop (length after) sorted.items in
    let as_many : length after ≡ length sorted.items = c.audit.ensures.grown.len ∙ ap (λ (l : List Knowledge). length l) c.as_mut_slice.ensures.value in
    let len : sorted.len ≡ length after = omega (arith, sorted.ok.0, as_many) in
    let same : take sorted.len (after ++ rest) ≡ after = ap (λ n. take n (after ++ rest)) len ∙ take-append_seam after rest in
    let told : MatchOption c.ok-audit.result (AreAtHand all after) (λ t. (c.args.lost ≡ 0) × IsWhole all after t.front) = search rules in
    let kept = take sorted.len (after ++ rest) in
    let shown = subst (λ l. MatchOption c.ok-audit.result (AreAtHand all l) (λ t. (c.args.lost ≡ 0) × IsWhole all l t.front)) (sym same) told in
    subst (λ o. MatchOption c.ok-audit.result (MatchOption o (kept ≡ []) (λ h. AreAtHand h.items kept)) (λ t. (c.args.lost ≡ 0) × MatchOption o ⊥ (λ h. IsWhole h.items kept t.front))) (sym c.in-Some.is) shown
