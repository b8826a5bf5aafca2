use Rattle.std.proofs.Common.{◌++◌, ◌∷◌, [], arith}
use Rattle.std.proofs.lemmas.Bool.Decides.{nat_tests}
use Rattle.sup_format.specs.HistorySteps.{read_more, read_all, bad_line, split_length}
use Rattle.sup_format.proofs.read.history.check_entries.Goals as goal

pub loop-rest-init : goal.loop-rest-init
loop-rest-init c = record { so_far = λ text template entries r. (entries, r); few = omega arith }

pub loop-rest-preserved : goal.loop-rest-preserved
loop-rest-preserved c =
    let found = c.in-Some.ensures in
    record {
      so_far = λ text template entries r.
          let now = c.loop-rest.invariant.so_far text template entries r in
          (now.0 ++ c.in-Some.field-0-0 ∷ [], read_more text c.loop-rest.rest.now template now.0 c.loop-rest.line now.1 found.0 c.in-Some.after.now c.in-Some.field-0-0 found.1 found.2);
      few = let len = split_length c.loop-rest.rest.now found.0 c.in-Some.after.now found.1 in omega (arith, len, c.loop-rest.invariant.few);
    }

pub returns-in_default-clause-stops : goal.returns-in_default-clause-stops
returns-in_default-clause-stops c = λ text template entries r.
    let now = c.loop-rest.invariant.so_far text template entries r in
    rw c.in_line.ensures (bad_line text c.loop-rest.rest.now template now.0 c.loop-rest.line now.1 (grind (arith, nat_tests)) c.in_default.ensures)

pub returns-clause-stops : goal.returns-clause-stops
returns-clause-stops c = λ text template entries r.
    let now = c.loop-rest.invariant.so_far text template entries r in
    (now.0, read_all text c.loop-rest.rest.now template now.0 c.loop-rest.line now.1 (grind (arith, nat_tests)))
