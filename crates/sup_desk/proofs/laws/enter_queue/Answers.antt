use Rattle.std.proofs.Common.{rules, ◌≡◌, ℕ, List, ◌++◌, [], length, take, refl, ap, sym, ◌∙◌, subst, arith, append-nil, inl}
use Rattle.std.proofs.lemmas.List.{nil_from_length}
use Rattle.sup_types.specs.declared.history.Entry.{Entry}
use Rattle.sup_types.specs.declared.history.Reply.{Reply}
use Rattle.sup_desk.specs.Books.{Kept, Written}
use Rattle.sup_desk.specs.Batches.{AreEntered}
use Rattle.sup_desk.specs.Knowledge.{Knowledge, entries_of}
use Rattle.sup_desk.specs.BatchLaws.{entered-own}
use Rattle.sup_desk.proofs.laws.enter_queue.Goals as goal

pub returns-in-Some-clause-entered : goal.returns-in-Some-clause-entered
returns-in-Some-clause-entered g c =
    let book : Kept = c.args.book.now in
    let caller : Knowledge = c.args.caller.now in
    let replies : List Reply = c.args.replies.now.items in
    let empty : [] ≡ replies = sym (nil_from_length replies (omega (arith, c.args.replies.now.ok.0, c.requires.none))) in (
      [],
      subst (λ (l : List Reply). AreEntered g.S.Starter.may_answer g.N.Name.template caller.number c.args.moment book.history (length caller.calls) (take (length l) c.args.operations.now.items) [] l) empty (refl, refl),
      (λ i. record { number = caller.number; editions = caller.editions; front = caller.front; calls = sym (append-nil caller.calls) i }),
      inl (λ i. record { editions = sym (append-nil book.editions) i; history = sym (append-nil book.history) i; made = book.made; handles = book.handles; fault = book.fault }),
    )

pub commit-requires-clause-mine : goal.commit-requires-clause-mine
commit-requires-clause-mine g c =
    let first : Written = c.book.inside.transaction in
    let written = c.write_all-fault.ensures.written in
    let entries : List Entry = written.0 in
    let number : ℕ = c.args.caller.now.number in
    let before : List Entry = first.published ++ first.pending in
    let own : entries_of entries number ≡ entries =
    entered-own g.S.Starter.may_answer g.N.Name.template number c.args.moment before (length (entries_of before number))
    (take (length c.write_all-fault.new.replies.items) c.args.operations.now.items) entries c.write_all-fault.new.replies.items written.1 in
    let clean : first.pending ≡ [] = search rules in
    let pending : c.write_all-fault.new.transaction.pending ≡ entries = ap (λ (w : Written). w.pending) written.2 ∙ ap (λ (l : List Entry). l ++ entries) clean in
    subst (λ (l : List Entry). entries_of l number ≡ l) (sym pending) own
