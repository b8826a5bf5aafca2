use Rattle.std.specs.Prelude.{IfSome}
use Rattle.std.proofs.Common.{ℕ, ◌+◌, ◌≤◌, List, [], ◌++◌, Some, false, length, take, sym, ap, ◌∙◌, refl, subst, append-nil, rules, arith}
use Rattle.sup_types.specs.declared.history.Reply.{Reply}
use Rattle.sup_desk.specs.Knowledge.{Knowledge}
use Rattle.sup_crew.specs.Births.{AreBornBy}
use Rattle.sup_crew.specs.Drains.{DrainModel}
use Rattle.sup_crew.specs.Drivers.{run_of, DriverModel, HasDriven, started_jobs}
use Rattle.sup_crew.specs.Jobs.{weigh}
use Rattle.sup_crew.specs.Tallies.{with_replies}
use Rattle.sup_crew.proofs.Born.{started-born}
use Rattle.sup_crew.proofs.Driven.{driven-stays, driven-started, all-started, part-started, few-started}
use Rattle.sup_crew.proofs.driver.Driver.start_batch.Goals as goal

pub returns-then-is_err-clause-started : goal.returns-then-is_err-clause-started
returns-then-is_err-clause-started g c before begun driven =
    let run = run_of g.N.Name.template g.N.Name.press c.args.crew.now.plan.moment before in
    let it = c.self.inside in
    let old : DriverModel = record { knows = it.handle; jobs = it.jobs; drain = it.drain; ticket = it.ticket; tally = it.tally } in
    let new : DriverModel = record { knows = it.handle; jobs = c.make_room.new.self; drain = it.drain; ticket = it.ticket; tally = it.tally } in
    let s = c.make_room.ensures.same in
    subst (λ l. HasDriven run l new) (sym (append-nil begun))
    (driven-stays g.S.Starter.may_answer run begun old new (subst (HasDriven run begun) (sym c.self.view_is) driven) ([], append-nil it.handle.front) (refl, refl) refl refl refl (λ h i. weigh h (s.2 i) + weigh h (s.3 i)))

pub note_starts-count-requires-clause-room : goal.note_starts-count-requires-clause-room
note_starts-count-requires-clause-room g c =
    let h = all-started g.S.Starter.may_answer g.N.Name.template g.N.Name.press c.self.inside.handle c.apply_all.new.self c.args.crew.now.plan.moment c.list_starts.new.starts.items c.args.args.now (search rules)
    c.in-Ok.field-0.replies.items c.in-Ok.field-0.ticket c.in-Ok.ensures.ok in
    let v = ap (λ (l : List Reply). length l) c.deref.ensures.value in
    let n = h.1 in
    let room : length c.args.args.now ≤ c.make_room.new.self.room = search rules in
    (search rules, omega (arith, n, v, room), omega (arith, n, v))

pub note_starts-count-requires-clause-born : goal.note_starts-count-requires-clause-born
note_starts-count-requires-clause-born g c =
    let h = all-started g.S.Starter.may_answer g.N.Name.template g.N.Name.press c.self.inside.handle c.apply_all.new.self c.args.crew.now.plan.moment c.list_starts.new.starts.items c.args.args.now (search rules)
    c.in-Ok.field-0.replies.items c.in-Ok.field-0.ticket c.in-Ok.ensures.ok in
    subst (AreBornBy g.N.Name.template c.in-Ok.field-0.ticket.front) (sym c.deref.ensures.value)
    (started-born g.S.Starter.may_answer g.N.Name.template g.N.Name.press c.self.inside.handle c.apply_all.new.self c.args.args.now c.args.crew.now.plan.moment c.in-Ok.field-0.replies.items (Some c.in-Ok.field-0.ticket) h.0)

pub note_starts-count-requires-in-Err-clause-room : goal.note_starts-count-requires-in-Err-clause-room
note_starts-count-requires-in-Err-clause-room g c =
    let h = part-started g.S.Starter.may_answer g.N.Name.template g.N.Name.press c.self.inside.handle c.apply_all.new.self c.args.crew.now.plan.moment c.list_starts.new.starts.items c.args.args.now (search rules)
    c.in-Err.part.replies.items c.in-Err.part.ticket c.in-Err.ensures.part c.in-Err.ensures.nothing in
    let few = few-started g.S.Starter.may_answer g.N.Name.template g.N.Name.press c.self.inside.handle c.apply_all.new.self c.args.crew.now.plan.moment c.args.args.now c.in-Err.part.replies.items c.in-Err.part.ticket h in
    let v = ap (λ (l : List Reply). length l) c.deref-in-Err.ensures.value in
    let room : length c.args.args.now ≤ c.make_room.new.self.room = search rules in
    (search rules, omega (arith, few, v, room), omega (arith, few, v))

pub note_starts-count-requires-in-Err-clause-born : goal.note_starts-count-requires-in-Err-clause-born
note_starts-count-requires-in-Err-clause-born g c =
    let h = part-started g.S.Starter.may_answer g.N.Name.template g.N.Name.press c.self.inside.handle c.apply_all.new.self c.args.crew.now.plan.moment c.list_starts.new.starts.items c.args.args.now (search rules)
    c.in-Err.part.replies.items c.in-Err.part.ticket c.in-Err.ensures.part c.in-Err.ensures.nothing in
    subst (λ (l : List Reply). IfSome c.in-Err.part.ticket (λ t. AreBornBy g.N.Name.template t.front l)) (sym c.deref-in-Err.ensures.value)
    (started-born g.S.Starter.may_answer g.N.Name.template g.N.Name.press c.self.inside.handle c.apply_all.new.self c.args.args.now c.args.crew.now.plan.moment c.in-Err.part.replies.items c.in-Err.part.ticket h)

pub returns-in-Ok-clause-all : goal.returns-in-Ok-clause-all
returns-in-Ok-clause-all g c =
    let h = all-started g.S.Starter.may_answer g.N.Name.template g.N.Name.press c.self.inside.handle c.apply_all.new.self c.args.crew.now.plan.moment c.list_starts.new.starts.items c.args.args.now (search rules)
    c.in-Ok.field-0.replies.items c.in-Ok.field-0.ticket c.in-Ok.ensures.ok in
    c.note_starts-count.ensures.count ∙ ap (λ (l : List Reply). length l) c.deref.ensures.value ∙ h.1

pub returns-in-Ok-clause-few : goal.returns-in-Ok-clause-few
returns-in-Ok-clause-few g c =
    let h = all-started g.S.Starter.may_answer g.N.Name.template g.N.Name.press c.self.inside.handle c.apply_all.new.self c.args.crew.now.plan.moment c.list_starts.new.starts.items c.args.args.now (search rules)
    c.in-Ok.field-0.replies.items c.in-Ok.field-0.ticket c.in-Ok.ensures.ok in
    let v = c.note_starts-count.ensures.count ∙ ap (λ (l : List Reply). length l) c.deref.ensures.value in
    let n = h.1 in
    omega (arith, n, v)

pub returns-in-Err-clause-few : goal.returns-in-Err-clause-few
returns-in-Err-clause-few g c =
    let h = part-started g.S.Starter.may_answer g.N.Name.template g.N.Name.press c.self.inside.handle c.apply_all.new.self c.args.crew.now.plan.moment c.list_starts.new.starts.items c.args.args.now (search rules)
    c.in-Err.part.replies.items c.in-Err.part.ticket c.in-Err.ensures.part c.in-Err.ensures.nothing in
    let few = few-started g.S.Starter.may_answer g.N.Name.template g.N.Name.press c.self.inside.handle c.apply_all.new.self c.args.crew.now.plan.moment c.args.args.now c.in-Err.part.replies.items c.in-Err.part.ticket h in
    let v = c.note_starts-count-in-Err.ensures.count ∙ ap (λ (l : List Reply). length l) c.deref-in-Err.ensures.value in
    omega (arith, few, v)

pub returns-in-Ok-clause-started : goal.returns-in-Ok-clause-started
returns-in-Ok-clause-started g c before begun driven =
    let run = run_of g.N.Name.template g.N.Name.press c.args.crew.now.plan.moment before in
    let it = c.self.inside in
    let old : DriverModel = record { knows = it.handle; jobs = it.jobs; drain = it.drain; ticket = it.ticket; tally = it.tally } in
    let last = c.note_starts-count.new.self in
    let new : DriverModel = record { knows = c.apply_all.new.self; jobs = last.jobs; drain = it.drain; ticket = last.ticket; tally = last.tally } in
    let q = c.note_starts-count.ensures in
    let s = c.make_room.ensures.same in
    let args = c.args.args.now in
    let replies = c.in-Ok.field-0.replies.items in
    let v = c.deref.ensures.value in
    let h = all-started g.S.Starter.may_answer g.N.Name.template g.N.Name.press c.self.inside.handle c.apply_all.new.self c.args.crew.now.plan.moment c.list_starts.new.starts.items c.args.args.now (search rules)
    c.in-Ok.field-0.replies.items c.in-Ok.field-0.ticket c.in-Ok.ensures.ok in
    subst (λ (n : ℕ). HasDriven run (begun ++ take n args) last) (sym (q.count ∙ ap (λ (l : List Reply). length l) v))
    (subst (λ (x : Knowledge × DrainModel). HasDriven run (begun ++ take (length replies) args) (record { knows = x.0; jobs = last.jobs; drain = x.1; ticket = last.ticket; tally = last.tally })) (λ i. (sym q.same.0 i, sym q.same.1 i))
    (driven-started g.S.Starter.may_answer run begun old new (subst (HasDriven run begun) (sym c.self.view_is) driven) (Some c.in-Ok.field-0.ticket) args replies c.in-Ok.ensures.front h.0 q.ticket refl
    (q.tally ∙ ap (with_replies it.tally false) v)
    (λ w. q.account w ∙ (λ i. weigh w (s.2 i) + weigh w (s.3 i) + weigh w (started_jobs args (v i))))))

pub returns-in-Err-clause-started : goal.returns-in-Err-clause-started
returns-in-Err-clause-started g c before begun driven =
    let run = run_of g.N.Name.template g.N.Name.press c.args.crew.now.plan.moment before in
    let it = c.self.inside in
    let old : DriverModel = record { knows = it.handle; jobs = it.jobs; drain = it.drain; ticket = it.ticket; tally = it.tally } in
    let last = c.note_starts-count-in-Err.new.self in
    let new : DriverModel = record { knows = c.apply_all.new.self; jobs = last.jobs; drain = it.drain; ticket = last.ticket; tally = last.tally } in
    let q = c.note_starts-count-in-Err.ensures in
    let s = c.make_room.ensures.same in
    let args = c.args.args.now in
    let replies = c.in-Err.part.replies.items in
    let v = c.deref-in-Err.ensures.value in
    let h = part-started g.S.Starter.may_answer g.N.Name.template g.N.Name.press c.self.inside.handle c.apply_all.new.self c.args.crew.now.plan.moment c.list_starts.new.starts.items c.args.args.now (search rules)
    c.in-Err.part.replies.items c.in-Err.part.ticket c.in-Err.ensures.part c.in-Err.ensures.nothing in
    subst (λ (n : ℕ). HasDriven run (begun ++ take n args) last) (sym (q.count ∙ ap (λ (l : List Reply). length l) v))
    (subst (λ (x : Knowledge × DrainModel). HasDriven run (begun ++ take (length replies) args) (record { knows = x.0; jobs = last.jobs; drain = x.1; ticket = last.ticket; tally = last.tally })) (λ i. (sym q.same.0 i, sym q.same.1 i))
    (driven-started g.S.Starter.may_answer run begun old new (subst (HasDriven run begun) (sym c.self.view_is) driven) c.in-Err.part.ticket args replies c.in-Err.ensures.front h q.ticket refl
    (q.tally ∙ ap (with_replies it.tally false) v)
    (λ w. q.account w ∙ (λ i. weigh w (s.2 i) + weigh w (s.3 i) + weigh w (started_jobs args (v i))))))
