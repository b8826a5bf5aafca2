use Rattle.std.proofs.Common.{◌≡◌, ◌+◌, [], ap, ◌∙◌, arith}
use Rattle.sup_desk.specs.Knowledge.{entries_of}
use Rattle.sup_desk.proofs.Counted.{entries-none}
use Rattle.sup_desk.proofs.Results.{book_of}
use Rattle.sup_desk.proofs.laws.add_handle.Goals as goal

pub open-token-requires-clause-none : goal.open-token-requires-clause-none
open-token-requires-clause-none g c =
    let l = c.transaction.inside in
    let enrolled = c.transaction.invariant.5 in
    let none : entries_of l.press.published (l.made + 1) ≡ [] = entries-none l.made l.press.published (l.made + 1) enrolled.1 (omega arith) in
    ap (λ r. entries_of r.history (l.made + 1)) enrolled.0 ∙ none

pub returns-clause-ok : goal.returns-clause-ok
returns-clause-ok g c =
    let l = c.transaction.inside in
    let is = ap book_of c.transaction.view_is ∙ c.book.view_is in
    let none : entries_of l.press.published (l.made + 1) ≡ [] = entries-none l.made l.press.published (l.made + 1) c.transaction.invariant.5.1 (omega arith) in
    let lens = c.in-Ok.ensures.lens in
    let token = c.open-token.ensures.token in
    let asker = c.begin-asker.ensures in (
      (λ i. record { number = (token i).number; editions = (asker i).editions; front = (asker i).front; calls = (token i).calls })
          ∙ (λ i. record { number = l.made + 1; editions = (lens i).editions; front = (lens i).front; calls = [] })
          ∙ (λ i. record { number = (is i).made + 1; editions = (is i).editions; front = (is i).history; calls = [] }),
      (λ i. entries_of (asker i).front (token i).number) ∙ (λ i. entries_of (lens i).front (l.made + 1)) ∙ none,
    )
