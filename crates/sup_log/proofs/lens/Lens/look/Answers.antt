-- The place is of the lens's template, and its front is what was found.
use Rattle.std.proofs.Common.{◌≡◌, rules}
use Rattle.left_right.specs.Sides.{view}
use Rattle.sup_log.proofs.lens.Lens.look.Goals as goal

pub returns-in-Some-clause-answer : goal.returns-in-Some-clause-answer
returns-in-Some-clause-answer g c =
    let same : c.self.inside.template ≡ (view c.self.inside.reader.place).view.standing.template = search rules in
    rw same (search rules)
