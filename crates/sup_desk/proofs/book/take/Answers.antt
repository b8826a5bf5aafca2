use Rattle.std.proofs.Common.{◌≡◌, List, slice_get, ap, ◌∙◌}
use Rattle.sup_types.specs.declared.history.Entry.{Entry}
use Rattle.sup_core.specs.Account.{reply_after}
use Rattle.sup_log.specs.Tokens.{Record, so_far}
use Rattle.sup_desk.proofs.Stepped.{with, stepped, but_the_last, the_last}
use Rattle.sup_desk.proofs.book.take.Goals as goal

pub returns-clause-press : goal.returns-clause-press
returns-clause-press g c =
    let r : Record = c.args.ready.now.press.now in
    let entry : Entry = c.args.entry in
    let is : c.append.new.self.press.now ≡ with r entry = c.in_ok-append.ensures.appended in (
      c.step.ensures.reply entry (ap (λ (x : Record). slice_get x.pending x.stepped) is ∙ the_last r entry c.requires.stepped)
          ∙ ap (λ (x : Record). reply_after x.template (so_far x) entry) is
          ∙ ap (λ (h : List Entry). reply_after r.template h entry) (but_the_last r entry c.requires.stepped),
      c.step.ensures.next ∙ ap stepped is,
    )
