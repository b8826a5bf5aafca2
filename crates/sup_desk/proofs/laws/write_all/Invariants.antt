use Rattle.std.proofs.Common.{◌≡◌, ◌≤◌, ◌-◌, ◌++◌, length, take, vec_capacity}
use Rattle.sup_desk.specs.Batches.{AreWritten}
use Rattle.sup_desk.proofs.laws.write_all.Given as goal

-- as many operations were written as there are replies
abbrev pub invariant-queue : goal.invariant-queue
invariant-queue g l = record {
  written : AreWritten g.S.Starter.may_answer g.N.Name.template l.initial.transaction l.caller.number l.moment (take (length l.replies.items) l.operations.items) l.replies.items l.transaction;
  within : length l.replies.items ≤ length l.operations.items;
  short : length (l.transaction.published ++ l.transaction.pending) ≤ g.N.Name.template.entries;
  room : vec_capacity l.replies ≡ vec_capacity l.initial.replies;
}

abbrev pub decreases-queue : goal.decreases-queue
decreases-queue g l = length l.operations.items - length l.replies.items
