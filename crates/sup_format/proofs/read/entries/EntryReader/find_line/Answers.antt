use Rattle.std.proofs.Common.{◌∙◌}
use Rattle.sup_format.proofs.Reading.Streams.{fed_unread, fed_streamed}
use Rattle.sup_format.proofs.read.entries.EntryReader.find_line.Goals as goal

pub returns-in_err-read_piece-clause-streamed : goal.returns-in_err-read_piece-clause-streamed
returns-in_err-read_piece-clause-streamed g c = λ initial first template entries s.
    fed_streamed initial c.loop-self.self c.read_piece.new.self c.read_piece.result c.read_piece.ensures first template entries (c.loop-self.invariant.streamed initial first template entries s)

pub returns-then-not-branch-clause-streamed : goal.returns-then-not-branch-clause-streamed
returns-then-not-branch-clause-streamed g c = λ initial first template entries s.
    fed_streamed initial c.loop-self.self c.read_piece.new.self c.read_piece.result c.read_piece.ensures first template entries (c.loop-self.invariant.streamed initial first template entries s)

pub loop-self-preserved : goal.loop-self-preserved
loop-self-preserved g c = record {
  unread = λ initial u. fed_unread initial c.loop-self.self c.read_piece.new.self c.read_piece.result c.read_piece.ensures (c.loop-self.invariant.unread initial u);
  streamed = λ initial first template entries s.
      fed_streamed initial c.loop-self.self c.read_piece.new.self c.read_piece.result c.read_piece.ensures first template entries (c.loop-self.invariant.streamed initial first template entries s);
  line = c.read_piece.ensures.same ∙ c.loop-self.invariant.line;
}

pub returns-in_err-read_piece-clause-unread : goal.returns-in_err-read_piece-clause-unread
returns-in_err-read_piece-clause-unread g c = λ initial u. fed_unread initial c.loop-self.self c.read_piece.new.self c.read_piece.result c.read_piece.ensures (c.loop-self.invariant.unread initial u)

pub returns-then-not-branch-clause-unread : goal.returns-then-not-branch-clause-unread
returns-then-not-branch-clause-unread g c = λ initial u. fed_unread initial c.loop-self.self c.read_piece.new.self c.read_piece.result c.read_piece.ensures (c.loop-self.invariant.unread initial u)
