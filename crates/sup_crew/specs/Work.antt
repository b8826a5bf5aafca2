-- What a worker did: it posted how each job that it took ended, but for the exit that it hands back.
use Rattle.std.specs.Prelude.{◌≡◌, ℕ, suc, ◌+◌, List, [], ◌∷◌, length, Option, Some, None}
use Rattle.std.specs.Global.{Global}
use Rattle.atomic_table.specs.Seated.{TableId}
use Rattle.crossbeam_queue.specs.SegTies.{SegId}
use Rattle.sup_types.specs.declared.text.Text.{Text}
use Rattle.sup_types.specs.declared.reason.Reason.{Reason}
use Rattle.sup_inbox.specs.declared.note.Note.{Note}
use Rattle.sup_inbox.specs.Ends.{Posting}
use Rattle.sup_crew.specs.declared.job.Child.{Child}
use Rattle.sup_crew.specs.declared.worker.Finished.{Finished}
use Rattle.sup_crew.specs.Jobs.{weigh}

-- the child whose end the note tells
abbrev pub ended_of : Note → Child
ended_of n = record { number = n.number; arg = n.arg }

abbrev pub ended : List Note → List Child
ended [] = []
ended (n ∷ ns) = ended_of n ∷ ended ns

-- the child whose end is not told
abbrev pub untold : Option Note → List Child
untold None = []
untold (Some n) = ended_of n ∷ []

-- each note gives a reason for which its child may end
abbrev pub AreEnds : (ℕ → Text → Reason → Type 0) → List Note → Type 0
AreEnds may_end [] = Unit {0}
AreEnds may_end (n ∷ ns) = may_end n.number n.arg n.reason × AreEnds may_end ns

-- the note that the poster posts next
abbrev pub IsNext : Posting → Note → Type 0
IsNext p n = (n.poster ≡ p.number) × (n.serial ≡ length p.posted)

-- the poster's next note, which gives such a reason, if there is one
abbrev pub IsEnd : (ℕ → Text → Reason → Type 0) → Posting → Option Note → Type 0
IsEnd may_end p None = Unit {0}
IsEnd may_end p (Some n) = may_end n.number n.arg n.reason × IsNext p n

module _ {N : Type 0} where
  pub record IsWorked (may_end : ℕ → Text → Reason → Type 0) (queue : SegId Global) (inbox : TableId) (number : ℕ) (r : Finished N) : Type 0 where
    pub of_queue : r.endpoint.queue ≡ queue
    pub of_inbox : r.poster.inbox ≡ inbox
    pub number_is : r.poster.number ≡ number
    pub put : (r.endpoint.permission.parts ≡ 1) × (r.endpoint.permission.put ≡ [])
    pub account : (h : Child → ℕ) → weigh h r.endpoint.permission.taken ≡ weigh h (ended r.poster.posted) + weigh h (untold r.unposted)
    pub posted : AreEnds may_end r.poster.posted
    pub unposted : IsEnd may_end r.poster r.unposted

  -- what the workers from `first` on handed back
  abbrev pub AreWorked : (ℕ → Text → Reason → Type 0) → SegId Global → TableId → ℕ → List (Finished N) → Type 0
  AreWorked may_end queue inbox first [] = Unit {0}
  AreWorked may_end queue inbox first (r ∷ rs) = IsWorked may_end queue inbox first r × AreWorked may_end queue inbox (suc first) rs
