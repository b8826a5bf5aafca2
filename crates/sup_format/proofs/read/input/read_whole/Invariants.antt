use Rattle.std.proofs.Common.{◌≡◌, ◌-◌, ◌≤◌, length}
use Rattle.std.specs.Io.KnownBytes.{Consumes}
use Rattle.sup_format.proofs.read.input.read_whole.Given as goal

abbrev pub invariant-loop-reader : goal.invariant-loop-reader
invariant-loop-reader g l = record {
  took : Consumes (g.R.Read.remaining l.initial.reader.reader) (g.R.Read.remaining l.reader.reader) l.text.items;
  count : l.reader.given ≡ length l.text.items;
  short : l.reader.given ≤ 16777216;
  calls : l.reader.calls ≤ l.reader.given;
}

abbrev pub decreases-loop-reader : goal.decreases-loop-reader
decreases-loop-reader g l = 16777216 - l.reader.given
