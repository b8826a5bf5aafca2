use Rattle.std.proofs.Common.{sym}
use Rattle.sup_format.proofs.Reading.Commands.{more_than_none}
use Rattle.sup_format.proofs.read.cursor.Cursor.end.Goals as goal

pub returns-then-is_some : goal.returns-then-is_some
returns-then-is_some c = more_than_none c.args.self.now.rest (sym c.if-is_some.ensures)
