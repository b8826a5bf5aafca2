use Rattle.std.proofs.Common.{[], sym}
use Rattle.sup_format.proofs.Reading.Commands.{tail_is, more_than_none, past_limits}
use Rattle.sup_format.proofs.Reading.Firsts.{header_of, marked_of}
use Rattle.sup_format.proofs.read.header.read_parts.Goals as goal

pub returns-then-is_some : goal.returns-then-is_some
returns-then-is_some c =
    let found = c.in_ok-parts.ensures in
    header_of _ _ c.read_shutdown.result c.in_ok-word.ensures.word (marked_of c.in_ok-parts.parts _ _ c.read_shutdown.result found.0 found.2 c.read_shutdown.ensures)
    (λ p e. more_than_none c.read_limits.new.words.rest (sym c.if-is_some.ensures) (past_limits c.in_ok-parts.parts p _ _ [] found.2 (tail_is _ _ _ _ _ c.in_ok-word.ensures.word e)))
