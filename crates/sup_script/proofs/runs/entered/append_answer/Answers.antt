-- An update is the entry of handle 0 with the next serial.
use Rattle.std.proofs.Common.{◌∙◌, sym, ap, subst, ◌++◌, length}
use Rattle.sup_core.specs.Account.{IsAfter}
use Rattle.sup_format.specs.Writing.Replies.{reply_text}
use Rattle.sup_script.specs.Running.Script.{text_of, history_after}
use Rattle.sup_script.proofs.runs.entered.append_answer.Goals as goal

pub returns-in_ok-append_reply-in-Update-clause-text : goal.returns-in_ok-append_reply-in-Update-clause-text
returns-in_ok-append_reply-in-Update-clause-text g c = λ history after.
    let (told, next) = c.update.ensures.history history 0 (length history) after in
    c.in_ok-append_reply-in-Update.ensures.ok
    ∙ ap (λ reply. c.args.out.now.items ++ reply_text reply) told
    ∙ ap (λ command. c.args.out.now.items ++ text_of g.S.FixedStarter.answer c.args.sup.now.template history command) (sym c.in-Update.is)

pub returns-in_ok-append_reply-in-Update-clause-after : goal.returns-in_ok-append_reply-in-Update-clause-after
returns-in_ok-append_reply-in-Update-clause-after g c = λ history after.
    let (told, next) = c.update.ensures.history history 0 (length history) after in
    subst (λ command. IsAfter c.update.new.self (history_after g.S.FixedStarter.answer c.args.sup.now.template history command)) (sym c.in-Update.is) next
