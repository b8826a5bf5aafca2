-- What is known once the workers of a run were joined.
use Rattle.std.specs.Prelude.{◌≡◌, ℕ, suc, ◌+◌, ◌<◌, ◌≤◌, List, [], ◌∷◌, length, take, IfNone, IfSome, vec_len, vec_capacity}
use Rattle.std.specs.Coded.{×_prop, Unit-prop}
use Rattle.std.proofs.Props.{props}
use Rattle.std.specs.Global.{Global}
use Rattle.atomic_table.specs.Seated.{TableId}
use Rattle.crossbeam_queue.specs.SegTies.{SegId}
use Rattle.sup_types.specs.declared.text.Text.{Text}
use Rattle.sup_types.specs.declared.reason.Reason.{Reason}
use Rattle.sup_desk.specs.Knowledge.{Knowledge}
use Rattle.sup_crew.specs.declared.run.RunOutcome.{RunOutcome}
use Rattle.sup_crew.specs.declared.run.Parts.{Parts}
use Rattle.sup_crew.specs.declared.closing.Buffers.{Buffers}
use Rattle.sup_crew.specs.Jobs.{permission}
use Rattle.sup_crew.specs.Drivers.{DriverModel, HasDriven, IsCause, Run}
use Rattle.sup_inbox.specs.Ends.{Posting, AreFrom, AreNew}
use Rattle.sup_crew.specs.Work.{AreWorked}

-- posters are numbered in at most one way
AreFrom-prop : (inbox : TableId) (first : ℕ) (ps : List Posting) → IsProp (AreFrom inbox first ps)
AreFrom-prop inbox first [] = Unit-prop
AreFrom-prop inbox first (p ∷ ps) =
    let of_inbox : IsProp (p.inbox ≡ inbox) = Prim.hlevel props in
    let number : IsProp (p.number ≡ first) = Prim.hlevel props in
    let rest = AreFrom-prop inbox (suc first) ps in
    λ a b i. (of_inbox a.0 b.0 i, number a.1 b.1 i, rest a.2 b.2 i)

AreNew-prop : (ps : List Posting) → IsProp (AreNew ps)
AreNew-prop [] = Unit-prop
AreNew-prop (p ∷ ps) = let none : IsProp (p.posted ≡ []) = Prim.hlevel props in ×_prop none (AreNew-prop ps)

-- empty lists, with room for what a run of so many workers hands over, and for the notes of an inbox and of a drain
abbrev pub HasRoom : ℕ → ℕ → Buffers → Type 0
HasRoom workers inbox b =
    ((b.posters.items ≡ []) × (b.unposted.items ≡ []) × (b.inbox.items ≡ []) × (b.held.items ≡ []))
    × (workers ≤ vec_capacity b.posters) × (workers ≤ vec_capacity b.unposted) × (inbox ≤ vec_capacity b.inbox) × (64 ≤ vec_capacity b.held)

module _ {N : Type 0} where
  -- an endpoint that knows all of the queue, all ends of the inbox, which did nothing yet, and room for what each worker hands back
  pub record AreParts (queue : SegId Global) (inbox : TableId) (p : Parts N) : Type 0 where
    pub endpoint : p.endpoint ≡ record { queue = queue; permission = permission 1024 [] [] }
    pub posters : AreFrom inbox 1 p.posters.items × AreNew p.posters.items × (vec_len p.posters < 1024)
    pub taker : p.taker ≡ record { inbox = inbox; posters = vec_len p.posters; taken = [] }
    pub finished : (length p.finished.items ≡ 0) × (vec_len p.posters ≤ vec_capacity p.finished)

  -- they are in at most one way
  pub AreParts-prop : (queue : SegId Global) (inbox : TableId) (p : Parts N) → IsProp (AreParts queue inbox p)
  AreParts-prop queue inbox p a b =
      let endpoint : IsProp (p.endpoint ≡ record { queue = queue; permission = permission 1024 [] [] }) = Prim.hlevel props in
      let from = AreFrom-prop inbox 1 p.posters.items in
      let new = AreNew-prop p.posters.items in
      let few : IsProp (vec_len p.posters < 1024) = Prim.hlevel props in
      let taker : IsProp (p.taker ≡ record { inbox = inbox; posters = vec_len p.posters; taken = [] }) = Prim.hlevel props in
      let finished : IsProp ((length p.finished.items ≡ 0) × (vec_len p.posters ≤ vec_capacity p.finished)) = Prim.hlevel props in
      λ i. record { endpoint = endpoint a.endpoint b.endpoint i; posters = (from a.posters.0 b.posters.0 i, new a.posters.1 b.posters.1 i, few a.posters.2 b.posters.2 i); taker = taker a.taker b.taker i; finished = finished a.finished b.finished i }

  -- the driver in the end
  abbrev pub driver_of : Knowledge → RunOutcome N → DriverModel
  driver_of knows j = record { knows = knows; jobs = j.jobs; drain = j.drain; ticket = j.ticket; tally = j.tally }

  -- what the driver's handle knows in the end, what it did for the first of the plan's children, and what its workers did
  pub record IsRunOutcome (may_end : ℕ → Text → Reason → Type 0) (run : Run) (queue : SegId Global) (inbox : TableId) (workers : ℕ) (plan : List Text) (knows : Knowledge) (j : RunOutcome N) : Type 0 where
    pub driver : j.driver ≡ knows.number
    pub driven : HasDriven run (take j.started plan) (driver_of knows j)
    pub of_queue : (j.jobs.queue ≡ queue) × (j.jobs.parts + workers ≡ 1024)
    pub of_inbox : (j.drain.inbox ≡ inbox) × (j.drain.posters ≡ workers)
    pub all : IfNone j.fault (j.started ≡ length plan)
    pub few : j.started ≤ length plan
    pub cause : IfSome j.fault (IsCause run.template knows)
    pub count : length j.finished.items ≡ workers
    pub worked : AreWorked may_end queue inbox 1 j.finished.items
