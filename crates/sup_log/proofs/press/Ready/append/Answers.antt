-- What was stepped is among what was pending before.
use Rattle.std.proofs.Common.{◌<◌, ◌+◌, ◌-◌, length, sym, subst, arith}
use Rattle.sup_log.specs.Tokens.{Record}
use Rattle.sup_log.proofs.Stepped.{IsKeptBy, stepped-pushed}
use Rattle.sup_log.proofs.press.Ready.append.Goals as goal

pub invariant_of-press : goal.invariant_of-press
invariant_of-press c =
    let was = c.press.inside in
    let law = c.press.invariant in
    let room = subst (λ (r : Record). length r.published + length r.pending < r.template.entries) (sym c.press.view_is) c.requires in
    let entries = was.replicas.shown.standing.template.entries in
    let kept : IsKeptBy was.replicas.shown.standing was.replicas.next c.put.new.list.items was.stepped (entries - length was.history.front) =
    stepped-pushed _ _ was.pending.items _ c.args.entry.now was.stepped _ _ c.put.ensures (omega (arith, room)) law.6 law.7 in
    (law.0, law.1, law.2, law.3, omega (arith, kept.room, room), law.5, kept.stepped, kept.same)
