use Rattle.std.proofs.Common.{◌≡◌, ◌++◌, take}
use Rattle.std.specs.List.{flat_map}
use Rattle.sup_format.specs.Writing.Replies.{row_text}
use Rattle.sup_format.proofs.write.reply.append_rows.Given as goal

abbrev pub invariant-loop-row : goal.invariant-loop-row
invariant-loop-row g l = l.out.items ≡ l.initial.out.items ++ flat_map row_text (take l.row-index l.rows)
