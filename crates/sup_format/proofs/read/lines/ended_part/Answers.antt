use Rattle.std.proofs.Common.{◌≡◌, ◌-◌, length, get_or, drop, take, sym, ap, ◌∙◌, arith}
use Rattle.std.proofs.lemmas.List.{take-append-drop, length-take-le, get_or-take}
use Rattle.sup_format.proofs.read.lines.ended_part.Goals as goal
use Rattle.sup_format.proofs.read.lines.ended_part.Goals.{then-loop-end-test+else-text-end-ne10, else-loop-end-test}

pub returns : goal.returns
returns c =
    let text = c.args.text.now in
    let end = c.loop-end.end in
    record {
      rest = drop end text;
      parts = sym (take-append-drop end text);
      unended = c.loop-end.invariant.unended;
      ended = λ some.
          let len : length (take end text) ≡ end = length-take-le end text c.loop-end.invariant.inside in
          elim c.loop-end-test.branch [
            | then-loop-end-test+else-text-end-ne10 w ↦ ap (λ n. get_or (take end text) (n - 1) 0) len ∙ get_or-take end text (end - 1) 0 (omega arith) ∙ w.if-text-end-ne10.false
            | else-loop-end-test w ↦ absurd (omega arith)
          ];
    }
