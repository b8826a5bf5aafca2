use Rattle.std.proofs.Common.{◌≢◌, take}
use Rattle.std.specs.List.{All}
use Rattle.sup_format.proofs.spelled.read_value.Given as goal

abbrev pub invariant-loop-value : goal.invariant-loop-value
invariant-loop-value g l = All (λ x. l.word ≢ g.X.Spelled.spelled x) (take l.value-index l.value-items)
