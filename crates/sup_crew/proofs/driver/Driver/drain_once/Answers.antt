use Rattle.std.proofs.Common.{◌+◌, [], sym, ◌∙◌, refl, subst, append-nil}
use Rattle.sup_desk.specs.Knowledge.{Knowledge}
use Rattle.sup_crew.specs.Drivers.{run_of, DriverModel, HasDriven, restarted_jobs}
use Rattle.sup_crew.specs.Drains.{DrainModel}
use Rattle.sup_crew.specs.Jobs.{weigh}
use Rattle.sup_crew.proofs.Born.{entered-born}
use Rattle.sup_crew.proofs.Driven.{driven-stays, driven-drained}
use Rattle.sup_crew.proofs.driver.Driver.drain_once.Goals as goal

pub returns-then-is_err-clause-drained : goal.returns-then-is_err-clause-drained
returns-then-is_err-clause-drained g c before begun driven =
    let run = run_of g.N.Name.template g.N.Name.press c.args.crew.now.plan.moment before in
    let it = c.self.inside in
    let old : DriverModel = record { knows = it.handle; jobs = it.jobs; drain = it.drain; ticket = it.ticket; tally = it.tally } in
    let new : DriverModel = record { knows = it.handle; jobs = c.make_room.new.self; drain = it.drain; ticket = it.ticket; tally = it.tally } in
    let s = c.make_room.ensures.same in
    driven-stays g.S.Starter.may_answer run begun old new (subst (HasDriven run begun) (sym c.self.view_is) driven) ([], append-nil it.handle.front) (refl, refl) refl refl refl (λ h i. weigh h (s.2 i) + weigh h (s.3 i))

pub note_exits-requires-clause-born : goal.note_exits-requires-clause-born
note_exits-requires-clause-born g c =
    entered-born g.S.Starter.may_answer g.N.Name.template g.N.Name.press c.self.inside.handle c.drain.new.handle c.in-Ok.done.pairs.items c.args.crew.now.plan.moment c.in-Ok.done.ticket c.in-Ok.ensures.ok

pub note_exits-requires-in-Err-clause-born : goal.note_exits-requires-in-Err-clause-born
note_exits-requires-in-Err-clause-born g c =
    let done = c.in-Err.field-0.done in
    entered-born g.S.Starter.may_answer g.N.Name.template g.N.Name.press c.self.inside.handle c.drain.new.handle done.pairs.items c.args.crew.now.plan.moment done.ticket c.in-Err.ensures.err

pub returns-in-Ok-clause-drained : goal.returns-in-Ok-clause-drained
returns-in-Ok-clause-drained g c before begun driven =
    let run = run_of g.N.Name.template g.N.Name.press c.args.crew.now.plan.moment before in
    let it = c.self.inside in
    let old : DriverModel = record { knows = it.handle; jobs = it.jobs; drain = it.drain; ticket = it.ticket; tally = it.tally } in
    let last = c.note_exits.new.self in
    let new : DriverModel = record { knows = c.drain.new.handle; jobs = last.jobs; drain = c.drain.new.self; ticket = last.ticket; tally = last.tally } in
    let done = c.in-Ok.done in
    let e = c.in-Ok.ensures in
    let q = c.note_exits.ensures in
    let s = c.make_room.ensures.same in
    subst (λ (x : Knowledge × DrainModel). HasDriven run begun (record { knows = x.0; jobs = last.jobs; drain = x.1; ticket = last.ticket; tally = last.tally })) (λ i. (sym q.same.0 i, sym q.same.1 i))
    (driven-drained g.S.Starter.may_answer run begun old new (subst (HasDriven run begun) (sym c.self.view_is) driven) done.ticket done.pairs.items e.front e.ok q.ticket e.entered q.tally
    (λ h. q.account h ∙ (λ i. weigh h (s.2 i) + weigh h (s.3 i) + weigh h (restarted_jobs done.pairs.items))))

pub returns-in-Err-clause-drained : goal.returns-in-Err-clause-drained
returns-in-Err-clause-drained g c before begun driven =
    let run = run_of g.N.Name.template g.N.Name.press c.args.crew.now.plan.moment before in
    let it = c.self.inside in
    let old : DriverModel = record { knows = it.handle; jobs = it.jobs; drain = it.drain; ticket = it.ticket; tally = it.tally } in
    let last = c.note_exits-in-Err.new.self in
    let new : DriverModel = record { knows = c.drain.new.handle; jobs = last.jobs; drain = c.drain.new.self; ticket = last.ticket; tally = last.tally } in
    let done = c.in-Err.field-0.done in
    let e = c.in-Err.ensures in
    let q = c.note_exits-in-Err.ensures in
    let s = c.make_room.ensures.same in
    subst (λ (x : Knowledge × DrainModel). HasDriven run begun (record { knows = x.0; jobs = last.jobs; drain = x.1; ticket = last.ticket; tally = last.tally })) (λ i. (sym q.same.0 i, sym q.same.1 i))
    (driven-drained g.S.Starter.may_answer run begun old new (subst (HasDriven run begun) (sym c.self.view_is) driven) done.ticket done.pairs.items e.front e.err q.ticket e.part q.tally
    (λ h. q.account h ∙ (λ i. weigh h (s.2 i) + weigh h (s.3 i) + weigh h (restarted_jobs done.pairs.items))))
