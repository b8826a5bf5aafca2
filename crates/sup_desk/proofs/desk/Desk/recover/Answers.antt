use Rattle.std.proofs.Common.{◌≡◌, ◌<◌, ◌≤◌, ℕ, List, ◌++◌, ◌∷◌, [], length, ap, sym, ◌∙◌, subst, arith}
use Rattle.std.proofs.lemmas.List.{take_all}
use Rattle.std.specs.Prelude.{All}
use Rattle.sup_types.specs.declared.history.Entry.{Entry}
use Rattle.sup_desk.specs.Audits.{AreNumbered, HaveSeenAll}
use Rattle.sup_desk.specs.BatchLaws.{next_of}
use Rattle.sup_desk.specs.Books.{IsMade}
use Rattle.sup_desk.specs.Knowledge.{Knowledge}
use Rattle.sup_desk.proofs.desk.Desk.recover.Goals as goal

pub loop-entry-preserved : goal.loop-entry-preserved
loop-entry-preserved g c =
    let entries : List Entry = c.args.entries.now in
    let k : ℕ = c.loop-entry.entry-index in
    let low : k < length entries = omega arith in
    let old = c.loop-entry.invariant in (
      c.in_ok-enter.ensures.ok ∙ ap (λ (l : List Entry). l ++ c.entry-item.result ∷ []) old.0 ∙ sym (next_of k entries c.entry-item.result low c.entry-item.is),
      c.in_ok-enter.ensures.handles ∙ old.1,
    )

-- the handles that were made are the callers
pub returns-clause-callers : goal.returns-clause-callers
returns-clause-callers g c =
    let entries : List Entry = c.args.entries.now in
    let callers : List Knowledge = c.finish.result.callers.items in
    let high : length entries ≤ c.loop-entry.entry-index = omega arith in
    let all : c.loop-entry.recovery.history ≡ entries = c.loop-entry.invariant.0 ∙ take_all c.loop-entry.entry-index entries high in
    subst (λ (l : List Entry). AreNumbered callers × HaveSeenAll l callers (length callers) × All (λ entry. IsMade (length callers) entry.handle) l) all c.finish.ensures.callers
