use Rattle.std.proofs.Common.{◌≡◌, ℕ, List, [], ◌++◌, ◌≤◌, ◌⊎◌, length, min, ap, sym, ◌∙◌, subst, rules, arith}
use Rattle.std.proofs.lemmas.Grind.{common_steps}
use Rattle.sup_types.specs.declared.history.Reply.{Reply}
use Rattle.sup_inbox.specs.declared.note.Note.{Note}
use Rattle.sup_crew.specs.Drains.{entered_of, notes_of}
use Rattle.sup_crew.proofs.DrainLemmas.{within, all-replies, few-replies, all-exits, first-exits, entered-all, entered-part, replies_of-length, entered-is, keeps, entered-more, all-or-none}
use Rattle.sup_crew.proofs.drain.Drain.drain.Goals as goal

pub pair_up-requires-clause-room : goal.pair_up-requires-clause-room
pair_up-requires-clause-room g c =
    let w = within _ _ _ (c.min-count.ensures ∙ ap (λ n. min n c.args.limit) c.len.ensures.value) in
    let n = all-replies _ _ _ _ _ _ _ _ _ _ _ c.in-Ok.ensures.ok c.list_exits.ensures w.0 in
    let v = c.in-Ok.field-0.replies.ok.0 in
    (search rules, grind (arith, common_steps))

pub pair_up-requires-clause-notes : goal.pair_up-requires-clause-notes
pair_up-requires-clause-notes g c =
    let w = within _ _ _ (c.min-count.ensures ∙ ap (λ n. min n c.args.limit) c.len.ensures.value) in
    let n = all-replies _ _ _ _ _ _ _ _ _ _ _ c.in-Ok.ensures.ok c.list_exits.ensures w.0 in
    let v = c.in-Ok.field-0.replies.ok.0 in
    omega (arith, n, v, w.0)

pub pair_up-pairs-requires-clause-room : goal.pair_up-pairs-requires-clause-room
pair_up-pairs-requires-clause-room g c =
    let w = within _ _ _ (c.min-count.ensures ∙ ap (λ n. min n c.args.limit) c.len.ensures.value) in
    let n = few-replies _ _ _ _ _ _ _ _ _ _ _ c.in-Err.ensures.part c.in-Err.ensures.nothing c.list_exits.ensures w.0 in
    let v = c.in-Err.part.replies.ok.0 in
    (search rules, grind (arith, common_steps))

pub pair_up-pairs-requires-clause-notes : goal.pair_up-pairs-requires-clause-notes
pair_up-pairs-requires-clause-notes g c =
    let w = within _ _ _ (c.min-count.ensures ∙ ap (λ n. min n c.args.limit) c.len.ensures.value) in
    let n = few-replies _ _ _ _ _ _ _ _ _ _ _ c.in-Err.ensures.part c.in-Err.ensures.nothing c.list_exits.ensures w.0 in
    let v = c.in-Err.part.replies.ok.0 in
    omega (arith, n, v, w.0)

pub returns-in-Ok-clause-ok : goal.returns-in-Ok-clause-ok
returns-in-Ok-clause-ok g c =
    let w = within _ _ _ (c.min-count.ensures ∙ ap (λ n. min n c.args.limit) c.len.ensures.value) in
    let n = all-replies _ _ _ _ _ _ _ _ _ _ _ c.in-Ok.ensures.ok c.list_exits.ensures w.0 in
    let p = c.pair_up.ensures in
    entered-all g.S.Starter.may_answer g.N.Name.template g.N.Name.press c.args.handle.now c.apply_all.new.self c.args.moment c.pair_up.result.items c.list_exits.new.operations.items c.in-Ok.field-0.replies.items c.in-Ok.field-0.ticket c.in-Ok.ensures.ok (all-exits _ _ c.pair_up.result.items c.fill.new.held.items c.pair_up.new.held.items c.in-Ok.field-0.replies.items c.list_exits.ensures n p.notes p.replies) (sym p.replies)

pub invariant_of-self-in-Ok : goal.invariant_of-self-in-Ok
invariant_of-self-in-Ok g c =
    let old = c.self.inside in
    let before = entered_of old.taker.taken old.held.items in
    let now = c.fill.ensures.held before c.self.invariant in
    let notes = notes_of c.pair_up.result.items in
    keeps c.fill.new.taker.taken (before ++ notes) c.pair_up.new.held.items (entered-more c.fill.new.taker.taken before c.fill.new.held.items notes c.pair_up.new.held.items now c.pair_up.ensures.notes)

pub returns-in-Ok-clause-entered : goal.returns-in-Ok-clause-entered
returns-in-Ok-clause-entered g c =
    let old = c.self.inside in
    let before = entered_of old.taker.taken old.held.items in
    let now = c.fill.ensures.held before c.self.invariant in
    let notes = notes_of c.pair_up.result.items in
    entered-is c.fill.new.taker.taken (before ++ notes) c.pair_up.new.held.items (entered-more c.fill.new.taker.taken before c.fill.new.held.items notes c.pair_up.new.held.items now c.pair_up.ensures.notes)
    ∙ ap (λ d. d.entered ++ notes) c.self.view_is

pub returns-in-Ok-clause-idle : goal.returns-in-Ok-clause-idle
returns-in-Ok-clause-idle g c none =
    let w = within _ _ _ (c.min-count.ensures ∙ ap (λ n. min n c.args.limit) c.len.ensures.value) in
    let n = all-replies _ _ _ _ _ _ _ _ _ _ _ c.in-Ok.ensures.ok c.list_exits.ensures w.0 in
    let l = sym (replies_of-length c.pair_up.result.items) ∙ ap (λ (l : List Reply). length l) c.pair_up.ensures.replies in
    let e = ap (λ (l : List (Note × Reply)). length l) none in
    let some : 1 ≤ c.min-count.result = search rules in
    absurd (omega (arith, n, l, e, some))

pub returns-in-Ok-clause-all : goal.returns-in-Ok-clause-all
returns-in-Ok-clause-all g c =
    let count = c.min-count.ensures ∙ ap (λ n. min n c.args.limit) c.len.ensures.value in
    let w = within _ _ _ count in
    let n = all-replies _ _ _ _ _ _ _ _ _ _ _ c.in-Ok.ensures.ok c.list_exits.ensures w.0 in
    let p = c.pair_up.ensures in
    let l = sym (replies_of-length c.pair_up.result.items) ∙ ap (λ (l : List Reply). length l) p.replies ∙ n in
    let v = c.pair_up.result.ok.0 in
    subst (λ (n : ℕ). (n ≡ c.args.limit) ⊎ (c.pair_up.new.held.items ≡ [])) (sym v)
    (all-or-none c.pair_up.result.items c.fill.new.held.items c.pair_up.new.held.items c.min-count.result c.args.limit count l p.notes)

pub returns-in-Ok-clause-few : goal.returns-in-Ok-clause-few
returns-in-Ok-clause-few g c =
    let w = within _ _ _ (c.min-count.ensures ∙ ap (λ n. min n c.args.limit) c.len.ensures.value) in
    let n = all-replies _ _ _ _ _ _ _ _ _ _ _ c.in-Ok.ensures.ok c.list_exits.ensures w.0 in
    let l = sym (replies_of-length c.pair_up.result.items) ∙ ap (λ (l : List Reply). length l) c.pair_up.ensures.replies in
    let v = c.pair_up.result.ok.0 in
    omega (arith, n, l, v, w.1)

pub returns-clause-err : goal.returns-clause-err
returns-clause-err g c =
    let w = within _ _ _ (c.min-count.ensures ∙ ap (λ n. min n c.args.limit) c.len.ensures.value) in
    let n = few-replies _ _ _ _ _ _ _ _ _ _ _ c.in-Err.ensures.part c.in-Err.ensures.nothing c.list_exits.ensures w.0 in
    let p = c.pair_up-pairs.ensures in
    entered-part g.S.Starter.may_answer g.N.Name.template g.N.Name.press c.args.handle.now c.apply_all.new.self c.args.moment c.pair_up-pairs.result.items c.list_exits.new.operations.items c.in-Err.part.replies.items c.in-Err.part.ticket c.in-Err.ensures.part c.in-Err.ensures.nothing (first-exits _ _ c.pair_up-pairs.result.items c.fill.new.held.items c.pair_up-pairs.new.held.items c.in-Err.part.replies.items c.list_exits.ensures n p.notes p.replies) (sym p.replies)

pub invariant_of-self-in-Err : goal.invariant_of-self-in-Err
invariant_of-self-in-Err g c =
    let old = c.self.inside in
    let before = entered_of old.taker.taken old.held.items in
    let now = c.fill.ensures.held before c.self.invariant in
    let notes = notes_of c.pair_up-pairs.result.items in
    keeps c.fill.new.taker.taken (before ++ notes) c.pair_up-pairs.new.held.items (entered-more c.fill.new.taker.taken before c.fill.new.held.items notes c.pair_up-pairs.new.held.items now c.pair_up-pairs.ensures.notes)

pub returns-clause-part : goal.returns-clause-part
returns-clause-part g c =
    let old = c.self.inside in
    let before = entered_of old.taker.taken old.held.items in
    let now = c.fill.ensures.held before c.self.invariant in
    let notes = notes_of c.pair_up-pairs.result.items in
    entered-is c.fill.new.taker.taken (before ++ notes) c.pair_up-pairs.new.held.items (entered-more c.fill.new.taker.taken before c.fill.new.held.items notes c.pair_up-pairs.new.held.items now c.pair_up-pairs.ensures.notes)
    ∙ ap (λ d. d.entered ++ notes) c.self.view_is

pub returns-clause-few : goal.returns-clause-few
returns-clause-few g c =
    let w = within _ _ _ (c.min-count.ensures ∙ ap (λ n. min n c.args.limit) c.len.ensures.value) in
    let n = few-replies _ _ _ _ _ _ _ _ _ _ _ c.in-Err.ensures.part c.in-Err.ensures.nothing c.list_exits.ensures w.0 in
    let l = sym (replies_of-length c.pair_up-pairs.result.items) ∙ ap (λ (l : List Reply). length l) c.pair_up-pairs.ensures.replies in
    let v = c.pair_up-pairs.result.ok.0 in
    omega (arith, n, l, v, w.1)
