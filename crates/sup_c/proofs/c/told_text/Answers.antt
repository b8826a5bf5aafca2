-- The bytes come first, then zeros.
use Rattle.std.proofs.Common.{◌≡◌, ◌-◌, ℕ, List, ◌++◌, length, drop, ◌∙◌, ap}
use Rattle.std.specs.Prelude.{replicate}
use Rattle.std.proofs.lemmas.List.{drop-replicate}
use Rattle.sup_c.specs.declared.c.CText.{CText}
use Rattle.sup_c.proofs.c.told_text.Goals as goal

pub returns : goal.returns
returns c =
    let bytes = c.args.bytes.now in
    let is : c.copy_from_slice.new.self ++ drop (length bytes) (replicate 40 0) ≡ bytes ++ replicate (40 - length bytes) 0 =
    ap (λ l. l ++ drop (length bytes) (replicate 40 0)) c.copy_from_slice.ensures.after ∙ ap (λ l. bytes ++ l) (drop-replicate (length bytes) 40 0) in
    let with : List ℕ → CText = λ l. record { len = length bytes; bytes = l } in
    ap with is
