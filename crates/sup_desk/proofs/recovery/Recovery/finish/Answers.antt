use Rattle.std.proofs.Common.{◌≡◌, ℕ, List, ◌++◌, [], length, take, drop, ap, sym, ◌∙◌, subst, arith, append-nil}
use Rattle.std.proofs.lemmas.List.{take_all, nil_from_length, length-drop}
use Rattle.std.specs.Prelude.{All}
use Rattle.sup_types.specs.declared.history.Entry.{Entry}
use Rattle.sup_desk.specs.Audits.{AreNumbered, AreGrown, HaveSeenAll}
use Rattle.sup_desk.specs.Books.{Kept, IsMade}
use Rattle.sup_desk.specs.Knowledge.{Knowledge}
use Rattle.sup_desk.specs.Recoveries.{Recalled}
use Rattle.sup_desk.proofs.Audited.{numbered_grown}
use Rattle.sup_desk.proofs.recovery.Recovery.finish.Goals as goal

-- a list whose slice was replaced by one as long
replaced : {A : Type 0} (old now : List A) (n : ℕ) → length old ≡ n → length now ≡ n → take n (now ++ drop (length now) old) ≡ now
replaced old now n len same =
    let none : drop (length now) old ≡ [] = nil_from_length (drop (length now) old) (omega (arith, length-drop (length now) old, len, same)) in
    ap (λ l. take n (now ++ l)) none ∙ ap (take n) (append-nil now) ∙ take_all n now (omega (arith, same))

pub returns-clause-callers : goal.returns-clause-callers
returns-clause-callers g c =
    let r = c.self.inside in
    let old : List Knowledge = r.callers.items in
    let now : List Knowledge = c.see_all_of.new.callers in
    let history : List Entry = c.args.self.history in
    let grown : AreGrown old now = subst (λ (l : List Knowledge). AreGrown l now) c.as_mut_slice.ensures.value c.see_all_of.ensures.grown in
    let book : r.book.history ≡ history = ap (λ (d : Recalled). d.history) c.self.view_is in
    let kept = c.book.view_is ∙ c.see_all_of.ensures.same in
    let count : r.book.made ≡ length now = omega (arith, c.self.invariant.1, r.callers.ok.0, grown.len) in
    let all : All (λ (entry : Entry). IsMade (length now) entry.handle) history =
    subst (λ (l : List Entry). All (λ (entry : Entry). IsMade (length now) entry.handle) l) book
    (subst (λ (n : ℕ). All (λ (entry : Entry). IsMade n entry.handle) r.book.history) count
    (subst (λ (k : Kept). All (λ (entry : Entry). IsMade k.made entry.handle) k.history) kept c.tell-ticket.ensures.entries)) in
    let seen : HaveSeenAll history now (length now) = subst (λ (l : List Entry). HaveSeenAll l now (length now)) book c.see_all_of.ensures.seen in
    subst (λ (l : List Knowledge). AreNumbered l × HaveSeenAll history l (length l) × All (λ (entry : Entry). IsMade (length l) entry.handle) history)
    (sym (replaced old now r.callers.len (sym r.callers.ok.0) (omega (arith, grown.len, r.callers.ok.0))))
    (numbered_grown old now c.self.invariant.3 grown, seen, all)
