use Rattle.std.proofs.Common.{refl, sym, ◌∙◌}
use Rattle.sup_desk.specs.Asking.{IsAnswered}
use Rattle.sup_desk.proofs.asker.inspected.Goals as goal

pub returns : goal.returns
unfolding IsAnswered
returns g c = (sym c.is_down.ensures.value ∙ c.if-is_down.false, (c.args.view, c.f.ensures, refl))

pub returns-then-is_down : goal.returns-then-is_down
unfolding IsAnswered
returns-then-is_down g c = sym c.is_down.ensures.value ∙ c.if-is_down.true
