use Rattle.std.proofs.Common.{rules, ◌≡◌, ◌++◌, ℕ, List, [], ap, sym, subst, inr, ◌∙◌}
use Rattle.sup_types.specs.declared.history.Entry.{Entry}
use Rattle.sup_format.specs.Reading.Streams.{IsUnread, Stream}
use Rattle.sup_format.specs.StreamLaws.{Consumes-nil, unread_new}
use Rattle.sup_format.specs.Writing.HistoryTexts.{header_line}
use Rattle.sup_journal.specs.Openings.{IsContinued}
use Rattle.sup_journal.proofs.Recording.{of_ok}
use Rattle.sup_journal.proofs.opening.continue_journal.Goals as goal

pub go_on-requires-clause-first : goal.go_on-requires-clause-first
go_on-requires-clause-first g c =
    let line : c.append_header.new.text.items ≡ header_line c.args.template.now =
    of_ok c.append_header.result (search rules) c.append_header.ensures.text ∙ ap (λ (l : List ℕ). l ++ header_line c.args.template.now) c.new-first.ensures.items in
    let slice : c.as_slice.result.now ≡ c.append_header.new.text.items = search rules in
    slice ∙ line

pub go_on-requires-clause-spelled : goal.go_on-requires-clause-spelled
go_on-requires-clause-spelled g c = c.append_header.ensures.spelled

pub go_on-requires-clause-next : goal.go_on-requires-clause-next
go_on-requires-clause-next g c = c.find_line.ensures.line ∙ ap (λ (s : Stream). s.next) c.new-lines.ensures

pub returns-in-Ok-true-clause-has : goal.returns-in-Ok-true-clause-has
returns-in-Ok-true-clause-has g c =
    let initial = g.F.Read.remaining c.args.file.file in
    let fresh : IsUnread initial c.new-lines.result = rw (c.new-lines.ensures, c.new.ensures.reader) (unread_new initial c.new.result.has_failed) in
    c.go_on.ensures.has initial (c.find_line.ensures.unread initial fresh)

pub returns-in-Ok-true-clause-entries : goal.returns-in-Ok-true-clause-entries
returns-in-Ok-true-clause-entries g c =
    let initial = g.F.Read.remaining c.args.file.file in
    let fresh : IsUnread initial c.new-lines.result = rw (c.new-lines.ensures, c.new.ensures.reader) (unread_new initial c.new.result.has_failed) in
    c.go_on.ensures.entries initial (c.find_line.ensures.unread initial fresh)

pub returns-in-Ok-false-clause-entries : goal.returns-in-Ok-false-clause-entries
returns-in-Ok-false-clause-entries g c =
    let initial = g.F.Read.remaining c.args.file.file in
    let fresh : IsUnread initial c.new-lines.result = rw (c.new-lines.ensures, c.new.ensures.reader) (unread_new initial c.new.result.has_failed) in
    let found = rw c.in-Ok-false.field-0-test at c.in-Ok-false.ensures.found in
    subst (λ (h : List Entry). IsContinued initial c.args.template.now c.args.recovery.now.handles h c.begin.result) (sym c.requires.fresh)
    (c.begin.ensures.entries initial c.args.recovery.now.handles (c.find_line.ensures.unread initial fresh) found.1)

-- nothing was read
pub returns-then-is_err-clause-entries : goal.returns-then-is_err-clause-entries
returns-then-is_err-clause-entries g c = let initial = g.F.Read.remaining c.args.file.file in ([], initial, Consumes-nil initial, tt)

pub returns-clause-entries : goal.returns-clause-entries
returns-clause-entries g c =
    let initial = g.F.Read.remaining c.args.file.file in
    let fresh : IsUnread initial c.new-lines.result = rw (c.new-lines.ensures, c.new.ensures.reader) (unread_new initial c.new.result.has_failed) in
    let u = c.find_line.ensures.unread initial fresh in
    (u.given, c.find_line.new.self.left, u.took, c.fault_of.ensures u.given c.args.template.now c.args.recovery.now.handles (inr c.in-Err.ensures.found.1))
