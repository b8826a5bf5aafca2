-- It has entered nothing in this run, and restarted no child.
use Rattle.std.proofs.Common.{ap, sym, subst}
use Rattle.sup_live.specs.Starts.{HasReplies}
use Rattle.sup_live.specs.ReplyLaws.{none_yet, none_since}
use Rattle.sup_live.specs.Leads.{are_driven}
use Rattle.sup_live.specs.Restarts.{number_restarted, numbers_of}
use Rattle.sup_live.proofs.Led.{led_none}
use Rattle.sup_live.proofs.driver.Driver+N+Desk+N+S+Q+J+P.new.Goals as goal

pub invariant_of-result-clause-made : goal.invariant_of-result-clause-made
invariant_of-result-clause-made g c =
    let template = g.N.Name.template in
    let handle = c.args.handle in
    subst (HasReplies number_restarted template c.calls-since.result handle) (sym (ap (λ a. numbers_of a.made) c.requires.1)) (none_yet number_restarted c.calls-since.result template handle c.calls-since.ensures)

pub invariant_of-result-clause-driven : goal.invariant_of-result-clause-driven
invariant_of-result-clause-driven g c = ap are_driven (none_since c.calls-since.result c.args.handle.calls c.calls-since.ensures)

pub invariant_of-result-clause-led : goal.invariant_of-result-clause-led
invariant_of-result-clause-led g c = led_none g.P.Office.may_end _ c.args.entered.paid (none_since c.calls-since.result c.args.handle.calls c.calls-since.ensures) (ap (λ a. a.paid) c.requires.0)
