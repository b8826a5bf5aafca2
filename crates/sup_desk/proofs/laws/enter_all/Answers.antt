use Rattle.std.proofs.Common.{rules, ◌≡◌, List, [], length, take, arith, sym, ◌∙◌, ap, subst}
use Rattle.std.proofs.lemmas.List.{nil_from_length}
use mathlib.Core.List.{IsPrefix}
use Rattle.sup_types.specs.declared.history.Operation.{Operation}
use Rattle.sup_types.specs.declared.history.Reply.{Reply}
use Rattle.sup_desk.specs.Books.{Kept, Written, IsLeft}
use Rattle.sup_desk.specs.Knowledge.{Knowledge}
use Rattle.sup_desk.proofs.Results.{book_of}
use Rattle.sup_desk.proofs.Queued.{QueueMet, queue_covered, queue_met, queue_seen, queue_entered, queue_silent, queue_applied}
use Rattle.sup_desk.proofs.laws.enter_all.Given.{Over}
use Rattle.sup_desk.proofs.laws.enter_all.Goals.{After-show-ticket}
use Rattle.sup_desk.proofs.laws.enter_all.Goals as goal

pub show-ticket-requires : goal.show-ticket-requires
show-ticket-requires g c =
    let book : Kept = book_of c.lemma_calls_are_all.new.self in
    let caller : Knowledge = c.lemma_calls_are_all.new.caller in
    let same = c.lemma_calls_are_all.ensures.same in
    let front : IsPrefix caller.front book.history =
    subst (λ (x : Written × Knowledge). IsPrefix x.1.front x.0.published) (λ i. (sym same.0 i, sym same.1 i)) c.lemma_calls_are_all.ensures.covered.0 in
    let editions : IsPrefix caller.editions book.editions =
    subst (λ (x : Written × Knowledge). IsPrefix x.1.editions x.0.editions) (λ i. (sym same.0 i, sym same.1 i)) c.lemma_calls_are_all.ensures.covered.1 in
    let after : Knowledge = c.enter_queue-fault.new.caller in
    let replies : List Reply = c.enter_queue-fault.new.replies.items in
    let covered = queue_covered g.S.Starter.may_answer g.J.Journal.may_fail g.N.Name.template book c.enter_queue-fault.new.book caller after
    (take (length replies) c.args.operations.now.items) c.args.moment replies c.enter_queue-fault.ensures.entered front editions in
    record {
      covered = (
        subst (λ (k : Kept). IsPrefix after.front k.history) (sym c.book-2.view_is) covered.0,
        subst (λ (k : Kept). IsPrefix after.editions k.editions) (sym c.book-2.view_is) covered.1,
      );
    }

-- the handle once it was shown what there is: each way out of the function goes through here
met : (g : Over) (c : After-show-ticket g)
    → QueueMet g.S.Starter.may_answer g.J.Journal.may_fail g.N.Name.template g.N.Name.press c.args.book.now c.args.handle.now
    (take (length c.enter_queue-fault.new.replies.items) c.args.operations.now.items) c.args.moment c.enter_queue-fault.new.replies.items c.enter_queue-fault.new.book c.show-ticket.new.caller
met g c =
    let l = c.lemma_calls_are_all in
    queue_met _ _ _ _ _ _ _ _ _ _ _ c.book.inside.transaction l.new.self c.book-2.inside.transaction c.handle.inside.caller l.new.caller c.enter_queue-fault.new.caller
    c.book.view_is c.handle.view_is l.ensures.same l.ensures.whole l.ensures.met l.ensures.covered c.enter_queue-fault.ensures.entered c.book-2.view_is c.show-ticket.ensures.caller

pub returns-in_default-clause-seen : goal.returns-in_default-clause-seen
returns-in_default-clause-seen g c = queue_seen _ _ _ _ _ _ _ _ _ _ _ (met g (goal.at.returns-in_default-clause-seen g c).After-show-ticket)

pub returns-in_default-clause-entered : goal.returns-in_default-clause-entered
returns-in_default-clause-entered g c = queue_entered _ _ _ _ _ _ _ _ _ _ _ (met g (goal.at.returns-in_default-clause-entered g c).After-show-ticket)

pub returns-then-is_empty-clause-seen : goal.returns-then-is_empty-clause-seen
returns-then-is_empty-clause-seen g c = queue_seen _ _ _ _ _ _ _ _ _ _ _ (met g (goal.at.returns-then-is_empty-clause-seen g c).After-show-ticket)

pub returns-then-is_empty-clause-entered : goal.returns-then-is_empty-clause-entered
returns-then-is_empty-clause-entered g c = queue_entered _ _ _ _ _ _ _ _ _ _ _ (met g (goal.at.returns-then-is_empty-clause-entered g c).After-show-ticket)

pub returns-clause-seen : goal.returns-clause-seen
returns-clause-seen g c = queue_seen _ _ _ _ _ _ _ _ _ _ _ (met g (goal.at.returns-clause-seen g c).After-show-ticket)

pub returns-clause-entered : goal.returns-clause-entered
returns-clause-entered g c = queue_entered _ _ _ _ _ _ _ _ _ _ _ (met g (goal.at.returns-clause-entered g c).After-show-ticket)

pub returns-then-is_empty-clause-nothing : goal.returns-then-is_empty-clause-nothing
returns-then-is_empty-clause-nothing g c =
    let one = c.enter_queue-fault in
    let none : one.new.replies.items ≡ [] = nil_from_length one.new.replies.items (grind (arith, c.is_empty.ensures, c.if-is_empty.true, one.new.replies.ok)) in
    let silent = queue_silent _ _ _ _ _ _ _ _ _ _ _ (met g (goal.at.returns-then-is_empty-clause-nothing g c).After-show-ticket) none in
    let book : book_of c.lemma_calls_are_all.new.self ≡ c.args.book.now = ap book_of c.lemma_calls_are_all.ensures.same.0 ∙ c.book.view_is in
    (none, silent.0, silent.1, subst (λ (k : Kept). IsLeft g.J.Journal.may_fail k c.in-Some.fault one.new.book) book (c.in-Some.ensures.left none))

pub returns-clause-part : goal.returns-clause-part
returns-clause-part g c =
    let shown = c.show-ticket.ensures.caller in
    let told = c.show-ticket.ensures.ticket ∙ (λ i. record { press = g.N.Name.press; editions = (sym shown i).editions; front = (sym shown i).front }) in
    (queue_applied _ _ _ _ _ _ _ _ _ _ _ (met g (goal.at.returns-clause-part g c).After-show-ticket) c.show-ticket.result told, search rules)
