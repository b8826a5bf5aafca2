use Rattle.std.proofs.Common.{◌≡◌, ap, sym, subst}
use Rattle.left_right.specs.declared.part.Part.{Part}
use Rattle.sup_log.specs.Tokens.{Sight}
use Rattle.sup_log.specs.Fronts.{Follows}
use Rattle.sup_log.proofs.Steps.{sees}
use Rattle.sup_log.proofs.replicas.fn.flip.replace_with.Goals as goal

pub show_as-requires : goal.show_as-requires
show_as-requires g c =
    let shown : Sight = c.open-open.result.0.shown.value in
    let next : Sight = c.args.next.value in
    let same : shown ≡ c.args.desk.shown.value = ap (λ (p : Part Sight). p.value) c.open-open.ensures.values.0 in
    let follows : Follows shown next = subst (λ (x : Sight). Follows x next) (sym same) c.requires in
    sees _ _ shown next follows.0 (λ _. follows.1)
