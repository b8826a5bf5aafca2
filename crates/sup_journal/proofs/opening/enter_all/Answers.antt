use Rattle.std.proofs.Common.{[], ◌∷◌, ◌++◌, refl, ◌∙◌}
use Rattle.std.proofs.lemmas.Result.{err_from_is_err_and}
use Rattle.sup_format.specs.Writing.HistoryTexts.{header_line}
use Rattle.sup_journal.proofs.Openings.{refused_in, stops_in}
use Rattle.sup_journal.proofs.opening.enter_all.Goals as goal

pub loop-entry-init : goal.loop-entry-init
loop-entry-init g c = record { read = λ initial t s. rw c.requires s; handles = refl }

pub loop-entry-preserved : goal.loop-entry-preserved
loop-entry-preserved g c = record {
  read = λ initial t s.
      let found = rw c.in-Ok-Some.field-0-is at (c.in-Ok-Some.ensures.read initial (header_line g.N.Name.template) t c.loop-entry.recovery.history (c.loop-entry.invariant.read initial t s)) in
      rw c.in_ok-enter-in-Ok-Some.ensures.ok found;
  handles = c.enter.ensures.handles ∙ c.loop-entry.invariant.handles;
}

pub returns-in-Ok-None-clause-entered : goal.returns-in-Ok-None-clause-entered
returns-in-Ok-None-clause-entered g c = λ initial t s.
    rw c.in-Ok-None.field-0-is at (c.in-Ok-None.ensures.read initial (header_line g.N.Name.template) t c.loop-entry.recovery.history (c.loop-entry.invariant.read initial t s))

pub returns-in-Err-clause-entered : goal.returns-in-Err-clause-entered
returns-in-Err-clause-entered g c = λ initial t s.
    let p = c.in-Err.ensures.read initial (header_line g.N.Name.template) t c.loop-entry.recovery.history (c.loop-entry.invariant.read initial t s) in
    (p.0.given, p.0.took, c.fault_of.ensures p.0.given g.N.Name.template c.args.recovery.now.handles (stops_in initial c.next.new.self g.N.Name.template t c.loop-entry.recovery.history p.0 c.in-Err.fault p.1))

pub returns-in_err-enter-in-Ok-Some-clause-entered : goal.returns-in_err-enter-in-Ok-Some-clause-entered
returns-in_err-enter-in-Ok-Some-clause-entered g c = λ initial t s.
    let found = rw c.in-Ok-Some.field-0-is at (c.in-Ok-Some.ensures.read initial (header_line g.N.Name.template) t c.loop-entry.recovery.history (c.loop-entry.invariant.read initial t s)) in
    let p = err_from_is_err_and c.from_residual.result c.from_residual.ensures.1 in
    rw (p.1, p.2) (refused_in initial c.next.new.self g.N.Name.template t (c.loop-entry.recovery.history ++ c.in-Ok-Some.entry ∷ []) found c.loop-entry.recovery.history c.in-Ok-Some.entry refl _ c.args.recovery.now.handles
    (rw c.loop-entry.invariant.handles at c.in_err-enter-in-Ok-Some.ensures.err))
