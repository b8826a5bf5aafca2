use Rattle.std.proofs.Common.{rules, ◌≡◌, ◌-◌, ℕ, List, [], length, drop, sym, ap, subst, ◌∙◌}
use Rattle.sup_format.specs.Reading.HistoryReading.{IsReadTo}
use Rattle.sup_format.specs.Reading.Streams.{Stream}
use Rattle.sup_format.proofs.Reading.Streams.{begun, rest_from}
use Rattle.sup_format.proofs.read.entries.EntryReader.begin.Goals as goal

pub returns-in-Ok-clause-streamed : goal.returns-in-Ok-clause-streamed
returns-in-Ok-clause-streamed g c = λ initial first body u begins.
    let stream = c.args.self.now in
    let items = c.self.inside.lines.items in
    let after = c.in-Ok.after.now in
    let template = c.in-Ok.template in
    let r = rw c.ready.ensures at c.in-Ok.ensures.begun in
    let ready = ap (λ (s : Stream). s.ready) c.self.view_is in
    let rest : drop (c.len.result - length after) items ≡ after = rest_from items r.done after c.self.inside.at c.len.result (search rules) (ready ∙ r.parts) in
    begun initial stream _ (ap (λ (s : Stream). s.left) c.self.view_is) (ap (λ (s : Stream). s.torn) c.self.view_is) (ap (λ (s : Stream). s.taken) c.self.view_is) first body template u begins
    (subst (λ (l : List ℕ). IsReadTo stream.ready l template [] 2) (sym rest) r)

pub returns-in-Err-clause-stops : goal.returns-in-Err-clause-stops
returns-in-Err-clause-stops g c = rw (c.ready.ensures, c.in-Err.ensures.line) at c.in-Err.ensures.begun

pub returns-in-Ok-clause-entries : goal.returns-in-Ok-clause-entries
returns-in-Ok-clause-entries g c = c.in-Ok.ensures.begun.first_is.template_is.entries
