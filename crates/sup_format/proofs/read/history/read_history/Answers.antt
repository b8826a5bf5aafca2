use Rattle.std.proofs.Common.{◌≡◌, ◌++◌, ◌∷◌, [], arith}
use Rattle.std.proofs.lemmas.Bool.Decides.{nat_tests}
use Rattle.sup_format.specs.HistorySteps.{read_more, no_room, bad_line, split_length, rest_short}
use Rattle.sup_format.proofs.read.history.read_history.Goals as goal

pub loop-rest-init : goal.loop-rest-init
loop-rest-init g c = record {
  so_far = rw c.new-entries.ensures.items c.in_ok-template.ensures.begun;
  few = let short = rest_short c.args.text.now c.in_ok-template.after.now c.in_ok-template.template [] 2 c.in_ok-template.ensures.begun in omega (arith, short);
}

pub returns-in_default : goal.returns-in_default
returns-in_default g c =
    rw c.in_line.ensures (bad_line c.args.text.now c.loop-rest.rest.now c.in_ok-template.template c.loop-rest.entries.items c.loop-rest.line c.loop-rest.invariant.so_far (grind (arith, nat_tests)) c.in_default.ensures)

pub returns-then-is_err : goal.returns-then-is_err
returns-then-is_err g c =
    let found = c.in-Some.ensures in
    rw c.in_line-then-is_err.ensures (no_room c.args.text.now c.loop-rest.rest.now c.in_ok-template.template c.loop-rest.entries.items c.loop-rest.line c.loop-rest.invariant.so_far found.0 c.in-Some.after.now c.in-Some.entry found.1 found.2)

pub loop-rest-preserved : goal.loop-rest-preserved
loop-rest-preserved g c =
    let found = c.in-Some.ensures in
    let entry = c.in-Some.entry in
    let pushed : c.push.new.self.items ≡ c.loop-rest.entries.items ++ entry ∷ [] = rw c.if-is_err.ensures.negation at c.push.ensures.items in
    record {
      so_far = rw pushed (read_more c.args.text.now c.loop-rest.rest.now c.in_ok-template.template c.loop-rest.entries.items c.loop-rest.line c.loop-rest.invariant.so_far found.0 c.in-Some.after.now entry found.1 found.2);
      few = let len = split_length c.loop-rest.rest.now found.0 c.in-Some.after.now found.1 in omega (arith, len, c.loop-rest.invariant.few);
    }
