-- A seal may go to another thread: it owns what a box of a shelf owns, or nothing.
use mathlib.Core.Bool.{Bool, true, false}
use mir.Raw.{raw}
use base.Shift.{Keyless}
use denote.Memory.{lone}
use denote.RawPtr.{Ptr}
use denote.Struct.Struct.{exits_of}
use denote.Struct.Owning.{fields, shape, to}
use denote.Param.Send.{IsSend, AllSend, owning_send, struct_send, sendable}
use Rattle.std.proofs.Crossing as heap
use Rattle.std.specs.Global.{Global}
use Rattle.std_alloc.proofs.SendSync.{quiet, lies}
use Rattle.std_heap.proofs.Global.TheSendSync as handle
use Rattle.sup_c.specs.contracts.shelf.Shelf as shelf
use Rattle.sup_c.proofs.shelf.Shelf.TheSendSync as shelf_crosses
use Rattle.sup_c.specs.Seals.{seal_owns}
use Rattle.sup_c.specs.contracts.held.Seal.{the_row, the_type}

crosses : (full : Bool) (alloc : Global) (p : Ptr) (s : shelf.the_row.Denot) → Keyless (seal_owns full alloc p s)
crosses true alloc p s = (lies shelf.the_row shelf_crosses.the_send p s, heap.frees.frees alloc (raw (lone shelf.the_row.mir)) p)
crosses false alloc p s = tt

pub send : IsSend the_row
send =
    let all : AllSend (fields the_type) = (search sendable, (handle.the_field_send, tt)) in
    owning_send the_type all (λ d. crosses d.is_full d.alloc d.ptr d.shelf)
    (λ k. quiet (to the_type) (exits_of k (fields the_type)) ((struct_send (shape the_type) all).leaving k))
