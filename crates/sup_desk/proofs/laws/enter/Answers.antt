use Rattle.std.proofs.Common.{◌≡◌, [], ◌∷◌, length, sym, ◌∙◌, ap, subst, ◌<◌}
use Rattle.std.specs.declared.result.Result.TheVariants.{Ok}
use Rattle.std.proofs.lemmas.Result.{err_from_is_err_and}
use mathlib.Core.List.{IsPrefix}
use Rattle.sup_log.specs.Tokens.{history_of}
use Rattle.sup_types.specs.declared.history.Entry.{Entry}
use Rattle.sup_desk.specs.Books.{Kept, Written, IsLeft, grown_by}
use Rattle.sup_desk.specs.Knowledge.{Knowledge, entries_of, with_entries}
use Rattle.sup_desk.specs.Batches.{IsOneEntered}
use Rattle.sup_desk.proofs.Results.{HasMet, book_of, seen_all, has_met, one_covered, update_result}
use Rattle.sup_desk.proofs.laws.enter.Goals as goal

pub show-ticket-requires : goal.show-ticket-requires
show-ticket-requires g c =
    let book : Kept = book_of c.lemma_calls_are_all.new.self in
    let caller : Knowledge = c.lemma_calls_are_all.new.caller in
    let same = c.lemma_calls_are_all.ensures.same in
    let front : IsPrefix caller.front book.history =
    subst (λ (x : Written × Knowledge). IsPrefix x.1.front x.0.published) (λ i. (sym same.0 i, sym same.1 i)) c.lemma_calls_are_all.ensures.covered.0 in
    let editions : IsPrefix caller.editions book.editions =
    subst (λ (x : Written × Knowledge). IsPrefix x.1.editions x.0.editions) (λ i. (sym same.0 i, sym same.1 i)) c.lemma_calls_are_all.ensures.covered.1 in
    let one = c.enter_one-entered.ensures in
    let after : Knowledge = c.enter_one-entered.new.caller in
    let covered = one_covered g.S.Starter.may_answer g.J.Journal.may_fail g.N.Name.template book c.enter_one-entered.new.book caller after
    c.args.operation.now c.args.moment c.enter_one-entered.result one.entered one.kept one.left front editions in
    record {
      covered = (
        subst (λ (k : Kept). IsPrefix after.front k.history) (sym c.book-2.view_is) covered.0,
        subst (λ (k : Kept). IsPrefix after.editions k.editions) (sym c.book-2.view_is) covered.1,
      );
    }

pub returns-in_err-entered-clause-left : goal.returns-in_err-entered-clause-left
returns-in_err-entered-clause-left g c =
    let book : book_of c.lemma_calls_are_all.new.self ≡ c.args.book.now = ap book_of c.lemma_calls_are_all.ensures.same.0 ∙ c.book.view_is in
    let p = err_from_is_err_and c.from_residual.result c.from_residual.ensures.1 in
    rw (p.1, p.2) (subst (λ (k : Kept). IsLeft g.J.Journal.may_fail k c.in_err-entered.field-0.0 c.enter_one-entered.new.book) book c.in_err-entered.ensures.left)

pub returns-clause-result : goal.returns-clause-result
returns-clause-result g c =
    let may = g.S.Starter.may_answer in
    let template = g.N.Name.template in
    let press = g.N.Name.press in
    let book : Kept = c.args.book.now in
    let before : Knowledge = c.args.handle.now in
    let left : Kept = c.enter_one-entered.new.book in
    let shown : Knowledge = c.show-ticket.new.caller in
    let book_is : book_of c.lemma_calls_are_all.new.self ≡ book = ap book_of c.lemma_calls_are_all.ensures.same.0 ∙ c.book.view_is in
    let before_is : c.lemma_calls_are_all.new.caller ≡ before = c.lemma_calls_are_all.ensures.same.1 ∙ c.handle.view_is in
    let has : HasMet book before (seen_all book before) = has_met book before
    (subst (λ (k : Kept). k.history ≡ history_of k.editions) c.book.view_is c.lemma_calls_are_all.ensures.whole)
    (subst (λ (x : Kept × Knowledge). entries_of x.0.history x.1.number ≡ x.1.calls) (λ i. (c.book.view_is i, c.handle.view_is i)) c.lemma_calls_are_all.ensures.met)
    (subst (λ (x : Kept × Knowledge). IsPrefix x.1.front x.0.history) (λ i. (c.book.view_is i, c.handle.view_is i)) c.lemma_calls_are_all.ensures.covered.0)
    (subst (λ (x : Kept × Knowledge). IsPrefix x.1.editions x.0.editions) (λ i. (c.book.view_is i, c.handle.view_is i)) c.lemma_calls_are_all.ensures.covered.1) in
    let entered : IsOneEntered may template book before c.args.operation.now c.args.moment c.in_ok-entered.field-0 left c.enter_one-entered.new.caller =
    subst (λ (x : Kept × Knowledge). IsOneEntered may template x.0 x.1 c.args.operation.now c.args.moment c.in_ok-entered.field-0 left c.enter_one-entered.new.caller)
    (λ i. (book_is i, before_is i)) c.in_ok-entered.ensures.entered in
    let entry : Entry = entered.0 in
    let left_is : book_of c.book-2.inside.transaction ≡ grown_by book (entry ∷ []) = c.book-2.view_is ∙ entered.3 in
    let shown_is : shown ≡ with_entries (seen_all book before) book.editions book.history (entry ∷ []) =
    c.show-ticket.ensures.caller ∙ (λ i. record { number = (entered.4 i).number; editions = (left_is i).editions; front = (left_is i).history; calls = (entered.4 i).calls }) in
    let told : c.show-ticket.result ≡ record { press = press; editions = shown.editions; front = shown.front } =
    c.show-ticket.ensures.ticket
    ∙ (λ i. record { press = press; editions = (sym c.show-ticket.ensures.caller i).editions; front = (sym c.show-ticket.ensures.caller i).front }) in
    let room : length book.history < template.entries = subst (λ (k : Kept). length k.history < template.entries) book_is c.in_ok-entered.ensures.room in
    update_result may template press book before (seen_all book before) shown c.args.moment has c.args.operation.now left
    (Ok (record { reply = c.in_ok-entered.field-0; ticket = c.show-ticket.result })) (entry, entered.1, entered.2, entered.3, shown_is) told tt tt room tt

pub returns-clause-learnt : goal.returns-clause-learnt
returns-clause-learnt g c =
    let book_is : book_of c.lemma_calls_are_all.new.self ≡ c.args.book.now = ap book_of c.lemma_calls_are_all.ensures.same.0 ∙ c.book.view_is in
    let entered = c.in_ok-entered.ensures.entered in
    subst (λ (k : Kept). IsPrefix k.history c.show-ticket.new.caller.front) book_is
    (entered.0 ∷ [], sym (ap (λ (k : Knowledge). k.front) c.show-ticket.ensures.caller ∙ ap (λ (k : Kept). k.history) (c.book-2.view_is ∙ entered.3)))
