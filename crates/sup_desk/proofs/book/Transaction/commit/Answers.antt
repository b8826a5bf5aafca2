use Rattle.std.proofs.Common.{◌≡◌, ◌≤◌, ◌+◌, ℕ, List, ◌++◌, [], length, refl, ap, sym, ◌∙◌, subst, arith, length-append, Option, None}
use Rattle.std.proofs.lemmas.List.Elements.{All-append}
use Rattle.sup_types.specs.declared.history.Entry.{Entry}
use Rattle.sup_log.specs.Tokens.{Record, history_of, in_one_step}
use Rattle.sup_log.specs.PublicationLaws.{history_grown}
use Rattle.sup_desk.specs.declared.journal.JournalFault.{JournalFault}
use Rattle.sup_desk.specs.Books.{Written, IsMade}
use Rattle.sup_desk.specs.Sessions.{IsEnrolled}
use Rattle.sup_desk.specs.Journals.{IsKept}
use Rattle.sup_desk.specs.Knowledge.{Knowledge, entries_of}
use Rattle.sup_desk.proofs.Counted.{own_all}
use Rattle.sup_desk.proofs.book.Transaction.commit.Goals as goal

pub enter-requires-clause-room : goal.enter-requires-clause-room
enter-requires-clause-room g c =
    omega (arith, ap (λ r. length r.history) c.self.invariant.5.0, ap length c.pending.ensures.items, ap (λ (r : Record). length r.pending) c.ready-ready.ensures.ready, c.self.invariant.4, g.N.Name.template.in_range.6)

pub invariant_of-self-2 : goal.invariant_of-self-2
invariant_of-self-2 g c =
    let l = c.self.inside in
    let old = c.self.invariant in
    let n = g.N.Name in
    let j = g.J.Journal in
    let published : List Entry = l.press.published in
    let pending : List Entry = l.press.pending in
    let number : ℕ = c.args.caller.now.number in
    let is = ap (λ (k : Knowledge). k.number) c.caller.view_is in
    let made : IsMade l.made number = (omega (arith, is, c.enter.ensures.made.0), omega (arith, is, ap (λ r. r.made) old.5.0, c.enter.ensures.made.1)) in
    let own : entries_of pending number ≡ pending =
    subst (λ (w : Written). entries_of w.pending number ≡ w.pending) (sym c.self.view_is) c.requires.mine in
    let items : c.pending.result.now ≡ pending = c.pending.ensures.items ∙ ap (λ (r : Record). r.pending) c.ready-ready.ensures.ready in
    let sessions : c.enter.new.self ≡ record { id = n.sessions; history = published ++ pending; made = l.made } =
    c.enter.ensures.entered ∙ (λ i. record { id = (old.5.0 i).id; history = (old.5.0 i).history ++ items i; made = (old.5.0 i).made }) in
    let enrolled : IsEnrolled n.sessions (published ++ pending) l.made c.enter.new.self = (
      sessions,
      All-append (λ (x : Entry). IsMade l.made x.handle) published pending old.5.1
          (λ k d within. subst (IsMade l.made) (sym (own_all number pending own k d within)) made),
    ) in
    let whole : published ++ pending ≡ history_of (l.press.editions ++ in_one_step pending) =
    ap (λ k. k ++ pending) old.2 ∙ sym (history_grown l.press.editions pending) in
    let none : l.fault ≡ None = ap (λ (w : Written). w.fault) c.self.view_is ∙ c.requires.going in
    let has = subst (λ (f : Option JournalFault). IsKept (j.has l.journal n.template) (j.is_torn l.journal n.template) j.may_fail f published pending) none old.8 in
    let kept : IsKept (j.has c.record.new.self n.template) (j.is_torn c.record.new.self n.template) j.may_fail l.fault (published ++ pending) [] =
    subst (λ (f : Option JournalFault). IsKept (j.has c.record.new.self n.template) (j.is_torn c.record.new.self n.template) j.may_fail f (published ++ pending) []) (sym none)
    (c.in_default.ensures.ok n.template published pending has) in
    let room : length (published ++ pending) + 0 ≤ n.template.entries = omega (arith, length-append published pending, old.4) in
    subst (λ (r : Record). (r.press ≡ n.press) × (r.template ≡ n.template) × (r.published ≡ history_of r.editions) × (r.stepped ≡ length r.pending)
    × (length r.published + length r.pending ≤ n.template.entries) × IsEnrolled n.sessions r.published l.made c.enter.new.self × (l.made ≤ l.handles) × (l.handles ≤ 1024)
    × IsKept (j.has c.record.new.self n.template) (j.is_torn c.record.new.self n.template) j.may_fail l.fault r.published r.pending)
    (sym (c.publish.ensures.1 ∙ ap (λ (r : Record). let next : Record = record { press = r.press; template = r.template; editions = r.editions ++ in_one_step r.pending; published = r.published ++ r.pending; pending = []; stepped = 0; is_out = c.publish.ensures.0 } in next) c.ready-ready.ensures.ready))
    (old.0, old.1, whole, refl, room, enrolled, old.6, old.7, kept)
