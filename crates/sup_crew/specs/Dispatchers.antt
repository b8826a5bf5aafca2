-- What a clause sees of a dispatcher.
use Rattle.std.specs.Prelude.{◌≡◌, ℕ, ◌+◌, List}
use Rattle.std.specs.Global.{Global}
use Rattle.crossbeam_queue.specs.SegTies.{SegId}
use Rattle.sup_crew.specs.declared.job.Child.{Child}
use Rattle.sup_crew.specs.Jobs.{weigh}

-- a dispatcher: of which queue, how many parts of the right to it, the children whose jobs it queued and kept, and for how many jobs
-- more it has room
pub record DispatcherModel : Type 0 where
  pub queue : SegId Global
  pub parts : ℕ
  pub put : List Child
  pub kept : List Child
  pub room : ℕ

abbrev pub IsSameQueue : DispatcherModel → DispatcherModel → Type 0
IsSameQueue old new = (new.queue ≡ old.queue) × (new.parts ≡ old.parts)

abbrev pub HasSameJobs : DispatcherModel → DispatcherModel → Type 0
HasSameJobs old new = (new.queue ≡ old.queue) × (new.parts ≡ old.parts) × (new.put ≡ old.put) × (new.kept ≡ old.kept)

-- it queued or kept the jobs for these children more
abbrev pub HasDispatched : DispatcherModel → DispatcherModel → List Child → Type 0
HasDispatched old new jobs = (h : Child → ℕ) → weigh h new.put + weigh h new.kept ≡ weigh h old.put + weigh h old.kept + weigh h jobs
