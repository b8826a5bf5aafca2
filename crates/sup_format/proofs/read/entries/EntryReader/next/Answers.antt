use Rattle.std.proofs.Common.{rules, ◌≡◌, ◌+◌, ◌-◌, ◌++◌, ◌∷◌, ℕ, List, [], length, drop, sym, ap, subst, ◌∙◌, inl, arith}
use Rattle.sup_format.specs.HistorySteps.{bad_line, split_parts, split_length}
use Rattle.sup_format.specs.Reading.Texts.{IsFull}
use Rattle.sup_format.specs.Reading.Streams.{Stream}
use Rattle.sup_format.specs.Reading.Words.{IsSplit}
use Rattle.sup_format.proofs.Reading.Streams.{one_more, full_behind, rest_from}
use Rattle.sup_format.proofs.read.entries.EntryReader.next.Goals as goal

pub returns-in-Some-clause-read : goal.returns-in-Some-clause-read
returns-in-Some-clause-read g c = λ initial first template entries s.
    let mid = c.find_line.ensures.streamed initial first template entries s in
    let stream = c.find_line.new.self in
    let items = c.self.inside.lines.items in
    let after = c.in-Some.after.now in
    let found = rw c.ready.ensures at c.in-Some.ensures in
    let ready = ap (λ (s : Stream). s.ready) c.self.view_is in
    let rest : drop (c.len.result - length after) items ≡ after =
    rest_from items (found.0 ++ 10 ∷ []) after c.self.inside.at c.len.result (search rules) (ready ∙ split_parts stream.ready found.0 after found.1) in
    one_more initial stream _ (ap (λ (s : Stream). s.left) c.self.view_is) (ap (λ (s : Stream). s.torn) c.self.view_is) (ap (λ (s : Stream). s.taken) c.self.view_is) first template entries found.0 c.in-Some.entry
    (ap (λ (s : Stream). s.next + 1) c.self.view_is) (subst (λ (l : List ℕ). IsSplit 10 stream.ready found.0 l) (sym rest) found.1) found.2 mid

pub returns-in-None-clause-read : goal.returns-in-None-clause-read
returns-in-None-clause-read g c = λ initial first template entries s.
    let mid = c.find_line.ensures.streamed initial first template entries s in
    let stream = c.find_line.new.self in
    let some = rw c.if-not-branch.false at c.in_ok-find_line.ensures.found in
    let none = rw c.ready.ensures at c.in-None.ensures in
    (mid, inl (bad_line mid.whole stream.ready template entries stream.next mid.so_far some none))

pub invariant_of-self : goal.invariant_of-self
invariant_of-self g c =
    let stream = c.find_line.new.self in
    let items = c.self.inside.lines.items in
    let after = c.in-Some.after.now in
    let found = rw c.ready.ensures at c.in-Some.ensures in
    let ready = ap (λ (s : Stream). s.ready) c.self.view_is in
    let rest : drop (c.len.result - length after) items ≡ after =
    rest_from items (found.0 ++ 10 ∷ []) after c.self.inside.at c.len.result (search rules) (ready ∙ split_parts stream.ready found.0 after found.1) in
    let was = ap length ready in
    let is = ap length rest in
    let len = split_length stream.ready found.0 after found.1 in (
      search rules,
      subst IsFull (sym rest) (full_behind stream.ready found.0 after found.1 (subst IsFull ready c.self.invariant.1)),
      c.self.invariant.2,
      omega (arith, was, is, len, c.self.invariant.3),
      c.self.invariant.4,
    )
