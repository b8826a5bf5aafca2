use Rattle.std.proofs.Common.{[], sym, ◌∙◌, append-nil}
use Rattle.sup_format.specs.Reading.Tokens.{argument_words}
use Rattle.sup_format.proofs.Reading.Commands.{no_update, tail_is}
use Rattle.sup_format.proofs.read.command.read_update.Goals as goal

pub returns-in_err-operation : goal.returns-in_err-operation
returns-in_err-operation c = rw c.from_residual-in_err-operation.ensures
    (no_update c.args.verb _ (λ m o mf fits same e. c.in_err-operation.ensures o [] fits same (tail_is _ _ _ _ _ c.in_ok-moment.ensures e ∙ sym (append-nil (argument_words o)))))
