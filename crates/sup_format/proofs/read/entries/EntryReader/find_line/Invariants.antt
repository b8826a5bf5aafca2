use Rattle.std.proofs.Common.{◌≡◌, ℕ, List, ◌-◌, ◌^◌, Option}
use Rattle.sup_types.specs.declared.template.Template.{Template}
use Rattle.sup_types.specs.declared.history.Entry.{Entry}
use Rattle.sup_format.specs.Reading.Streams.{IsStreamed, IsUnread}
use Rattle.sup_format.proofs.read.entries.EntryReader.find_line.Given as goal

abbrev pub invariant-loop-self : goal.invariant-loop-self
invariant-loop-self g l = record {
  unread : (initial : Option (List ℕ)) → IsUnread initial l.fn.self → IsUnread initial l.self;
  streamed : (initial : Option (List ℕ)) (first : List ℕ) (template : Template) (entries : List Entry) → IsStreamed initial l.fn.self first template entries → IsStreamed initial l.self first template entries;
  line : l.self.next ≡ l.fn.self.next;
}

abbrev pub decreases-loop-self : goal.decreases-loop-self
decreases-loop-self g l = 2 ^ 62 - l.self.taken
