-- What was read are the arguments before the place.
use Rattle.std.proofs.Common.{◌≡◌, map, take}
use Rattle.sup_crew.proofs.pool.read_arguments.Given as goal

abbrev pub invariant-loop-place : goal.invariant-loop-place
invariant-loop-place g l = l.texts.items ≡ map g.S.AsStr.text (take l.place l.fn.arguments)
