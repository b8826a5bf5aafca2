-- The seal and its parts own what a box at the same types owns.
use mir.Syntax.{impl, tnil, dnil}
use mathlib.Core.List.{[]}
use denote.Signature.{Slot, plain}
use Rattle.std_alloc.proofs.BoxSteps.Form.{Bx}
use Rattle.std_heap.specs.contracts.Global as Heap
use Rattle.std_heap.specs.contracts.GlobalAllocator.TheImpl.{ghosts, dict}
use Rattle.std_heap.proofs.Global.TheLaws as heap
use Rattle.sup_c.specs.contracts.shelf.Shelf as Shelf
use Rattle.sup_c.proofs.shelf.Shelf.TheLaws as shelf
use Rattle.sup_c.specs.contracts.held.Parts as Parts
use Rattle.sup_c.specs.contracts.held.Seal as Seal

abbrev pub E : Bx
E = record { row = Shelf.the_row; laws = shelf.the_row_laws; al = record { row = Heap.the_row; laws = heap.the_row_laws; g = ghosts; d = dict; drops = impl [] tnil dnil } }

abbrev pub FromParts : Slot 0
FromParts = plain (λ _. Parts.the_row Shelf.the_row Heap.the_row ghosts)

abbrev pub FromSeal : Slot 0
FromSeal = plain (λ _. Seal.the_row)
