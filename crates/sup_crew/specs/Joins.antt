-- What the workers handed back, taken together.
use Rattle.std.specs.Prelude.{◌≡◌, List, [], ◌∷◌, ◌++◌, Option, Some, None}
use Rattle.std.specs.Global.{Global}
use Rattle.crossbeam_queue.specs.SegTies.{SegId}
use Rattle.sup_inbox.specs.declared.note.Note.{Note}
use Rattle.sup_inbox.specs.Ends.{Posting}
use Rattle.sup_crew.specs.declared.job.Child.{Child}
use Rattle.sup_crew.specs.declared.worker.Finished.{Finished}

-- the note that is there, if one is
abbrev pub note_in : Option Note → List Note
note_in None = []
note_in (Some note) = note ∷ []

module _ {N : Type 0} where
  -- the posters, what the hands took, and the notes that could not be posted, in the order of the workers
  abbrev pub posters_of : List (Finished N) → List Posting
  posters_of [] = []
  posters_of (r ∷ rs) = r.poster ∷ posters_of rs

  abbrev pub taken_of : List (Finished N) → List Child
  taken_of [] = []
  taken_of (r ∷ rs) = r.endpoint.permission.taken ++ taken_of rs

  abbrev pub unposted_of : List (Finished N) → List Note
  unposted_of [] = []
  unposted_of (r ∷ rs) = note_in r.unposted ++ unposted_of rs

  -- endpoints of the queue with one part each, which queued nothing
  abbrev pub AreEndpoints : SegId Global → List (Finished N) → Type 0
  AreEndpoints queue [] = Unit {0}
  AreEndpoints queue (r ∷ rs) = (r.endpoint.queue ≡ queue) × (r.endpoint.permission.parts ≡ 1) × (r.endpoint.permission.put ≡ []) × AreEndpoints queue rs
