use Rattle.std.proofs.Common.{◌≤◌, nat_eq}
use Rattle.indexmap.specs.IndexMap.{spare, IsUnique}
use Rattle.sup_core.proofs.GatherLemmas.{Gathered}
use Rattle.sup_core.proofs.table.gather.Given as goal

-- the listed children of the places before the index stand in front
abbrev pub invariant-loop-index : goal.invariant-loop-index
invariant-loop-index g l = Gathered l.initial.children.entries l.children.entries l.index l.kept × (spare l.initial.children ≤ spare l.children) × IsUnique nat_eq l.children
