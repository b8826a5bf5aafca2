use Rattle.std.proofs.Common.{rules, ◌≡◌, ◌≤◌, ◌-◌, ℕ, List, ◌++◌, length, take, drop, ◌∙◌, sym, ap, subst, arith, length-append}
use Rattle.std.specs.Prelude.{replicate}
use Rattle.std.proofs.Math.Seq.{take-append_seam}
use Rattle.std.proofs.lemmas.List.{drop-replicate, length-replicate}
use Rattle.sup_types.specs.Text.{IsText}
use Rattle.sup_types.proofs.text.Text.new.Goals as goal

pub invariant_of-result : goal.invariant_of-result
invariant_of-result c =
    let bytes = c.args.bytes.now in
    let behind : List ℕ = replicate (40 - length bytes) 0 in
    let few : length bytes ≤ 40 = omega (arith, c.if-bytes-gt40.false) in
    let is : c.copy_from_slice.new.self ++ drop (length bytes) (replicate 40 0) ≡ bytes ++ behind =
    ap (λ l. l ++ drop (length bytes) (replicate 40 0)) c.copy_from_slice.ensures.after ∙ ap (λ l. bytes ++ l) (drop-replicate (length bytes) 40 0) in
    let front = ap (take (length bytes)) is ∙ take-append_seam bytes behind in
    let whole : IsText bytes = search rules in (
      few,
      ap length is ∙ length-append bytes behind ∙ omega (arith, few, length-replicate {A = ℕ} (40 - length bytes) 0),
      subst IsText (sym front) whole,
      is ∙ ap (λ l. l ++ behind) (sym front),
    )
