use Rattle.std.proofs.Common.{◌≡◌, ◌+◌, take, length, refl, arith}
use Rattle.std.proofs.lemmas.List.{length-take}
use Rattle.sup_format.specs.Reading.Streams.{Stream}
use Rattle.sup_format.proofs.Reading.Streams.{feed_ends}
use Rattle.sup_format.proofs.read.entries.EntryReader.read_piece.Goals as goal

pub returns : goal.returns
returns g c =
    let more = take c.in-Some.count c.read_on.new.piece in
    let got = c.in-Some.ensures.bytes in
    let stream : Stream = record {
      left = g.R.Read.remaining c.read_on.new.self.reader;
      ready = c.join.new.lines.items;
      torn = c.join.new.torn.items;
      next = c.self.inside.next;
      taken = c.self.inside.taken + c.in-Some.count;
      has_failed = c.read_on.new.self.has_failed;
    } in
    let len : length more ≡ c.in-Some.count = omega (arith, length-take c.in-Some.count c.read_on.new.piece, got.0) in
    rw (← c.self.view_is) (record {
      none = rw (← c.self.view_is) at c.requires;
      more = more;
      took = got.3;
      count = omega (arith, len);
      parts = rw c.in_ok-reserve-2.ensures.items at c.join.ensures.parts;
      full = c.join.ensures.full;
      lacks = rw c.in_ok-reserve-2.ensures.items at c.join.ensures.lacks;
      same = refl;
      within = omega arith;
      ended = feed_ends stream more c.in-Some.count len (λ none. (c.join.ensures.none (omega (arith, none, len)), got.4 none));
    })
