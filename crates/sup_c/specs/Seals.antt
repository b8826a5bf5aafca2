-- What a seal owns: the same as a box of a shelf where it is full, and else nothing.
use base.Fml.{Fml, ftrue}
use base.Stored.{Coded}
use denote.RawPtr.{Ptr}
use mathlib.Core.Bool.{Bool, true, false}
use Rattle.std.specs.Box.Ownership.{box_owns}
use Rattle.std.specs.Global.{Global}
use Rattle.std_heap.specs.contracts.GlobalAllocator.TheImpl.{ghosts}
use Rattle.sup_c.specs.contracts.shelf.Shelf as shelf

abbrev pub seal_owns : Bool → Global → Ptr → shelf.the_row.Denot → Fml
seal_owns true alloc p s = box_owns (ghosts.dealloc_token alloc) shelf.the_row p s
seal_owns false alloc p s = ftrue

abbrev pub shelf_coded : Coded shelf.the_row.Denot
shelf_coded = shelf.the_row.coded
