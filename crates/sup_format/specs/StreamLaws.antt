-- What the reading of a stream comes to.
use Rattle.std.proofs.Common.{◌≡◌, ℕ, Bool, List, [], length, Option, None, Some, refl, ap, arith}
use Rattle.std.specs.Io.KnownBytes.{Consumes}
use Rattle.sup_types.specs.declared.template.Template.{Template}
use Rattle.sup_types.specs.declared.history.Entry.{Entry}
use Rattle.sup_format.specs.HistorySteps.{read_all}
use Rattle.sup_format.specs.Reading.History.{Spells}
use Rattle.sup_format.specs.Reading.Streams.{IsStreamed, IsUnread, Stream}
use Rattle.sup_format.specs.Reading.Texts.{IsEndedPart}

pub Consumes-nil : (left : Option (List ℕ)) → Consumes left left []
Consumes-nil None = tt
Consumes-nil (Some xs) = refl

-- nothing was read
pub unread_new : (left : Option (List ℕ)) (has_failed : Bool) → IsUnread left (record { left = left; ready = []; torn = []; next = 1; taken = 0; has_failed = has_failed })
unread_new left has_failed = record {
  given = [];
  took = Consumes-nil left;
  count = refl;
  parts = refl;
  full = λ some. absurd (omega arith);
  lacks = λ n d below. absurd (omega arith);
  first = refl;
}

-- what is ready are the whole lines of what was read
pub unread_ended : (initial : Option (List ℕ)) (s : Stream) (u : IsUnread initial s) → IsEndedPart u.given s.ready
unread_ended initial s u = record { rest = s.torn; parts = u.parts; unended = u.lacks; ended = u.full }

module _ (initial : Option (List ℕ)) (s : Stream) (first : List ℕ) (template : Template) (entries : List Entry) (it : IsStreamed initial s first template entries) where
  pub streamed_ended : IsEndedPart it.given it.whole
  streamed_ended = record { rest = s.torn; parts = it.parts; unended = it.lacks; ended = it.full }

  -- where no line is left, the whole lines spell the entries
  pub streamed_spelled : s.ready ≡ [] → Spells it.whole template entries
  streamed_spelled none = read_all it.whole s.ready template entries s.next it.so_far (ap length none)
