use Rattle.std.proofs.Common.{◌≡◌, ◌++◌, take, map}
use Rattle.sup_format.specs.Writing.Replies.{field_word, spaced}
use Rattle.sup_format.proofs.write.reply.append_spaced.Given as goal

abbrev pub invariant-loop-field : goal.invariant-loop-field
invariant-loop-field g l = l.out.items ≡ l.initial.out.items ++ spaced (map field_word (take l.field-index l.fields))
