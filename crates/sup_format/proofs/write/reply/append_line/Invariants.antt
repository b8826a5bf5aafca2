use Rattle.std.proofs.Common.{◌≡◌, ◌++◌, take, map}
use Rattle.std.specs.List.{join_with_byte}
use Rattle.sup_format.specs.Writing.Replies.{field_word}
use Rattle.sup_format.proofs.write.reply.append_line.Given as goal

abbrev pub invariant-loop-i : goal.invariant-loop-i
invariant-loop-i g l = l.out.items ≡ l.initial.out.items ++ join_with_byte 32 (map field_word (take l.i l.fields))
