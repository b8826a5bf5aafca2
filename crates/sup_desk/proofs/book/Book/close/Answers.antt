use Rattle.std.proofs.Common.{List, Option, None, Some, ap, ◌∙◌, sym, subst}
use Rattle.sup_types.specs.declared.history.Entry.{Entry}
use Rattle.sup_desk.specs.declared.journal.JournalFault.{JournalFault}
use Rattle.sup_desk.specs.Books.{Kept, IsClean}
use Rattle.sup_desk.specs.Journals.{IsKept, HasJust}
use Rattle.sup_desk.proofs.book.Book.close.Goals as goal

just_of : (has torn : List Entry → List Entry → Type 0) (may : JournalFault → Type 0) (fault : Option JournalFault) (history pending : List Entry)
    → IsKept has torn may fault history pending → IsClean fault pending → HasJust has torn may fault history
just_of has torn may None history pending kept clean = subst (has history) clean kept
just_of has torn may (Some fault) history pending kept clean = ((pending, kept.0), kept.1)

pub returns-clause-journal : goal.returns-clause-journal
returns-clause-journal g c =
    let n = g.N.Name in
    let j = g.J.Journal in
    let t = c.self-inside.inside.0.0 in
    let history = ap (λ b. b.transaction.published) c.self-inside.view_is ∙ ap (λ (k : Kept). k.history) c.self.view_is in
    let clean : IsClean t.fault t.press.pending = subst (λ b. IsClean b.transaction.fault b.transaction.pending) (sym c.self-inside.view_is) c.self.invariant in
    subst (λ (h : List Entry). HasJust (j.has t.journal n.template) (j.is_torn t.journal n.template) j.may_fail t.fault h) history
    (just_of (j.has t.journal n.template) (j.is_torn t.journal n.template) j.may_fail t.fault t.press.published t.press.pending c.self-inside.invariant.8 clean)
