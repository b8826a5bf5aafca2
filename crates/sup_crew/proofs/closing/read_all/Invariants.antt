use Rattle.std.proofs.Common.{◌≡◌, ℕ, ◌+◌, ◌≤◌, length}
use Rattle.std.specs.Prelude.{vec_items, vec_len}
use Rattle.std.specs.Vec.{vec_capacity}
use Rattle.sup_crew.specs.declared.job.Child.{Child}
use Rattle.sup_crew.specs.Jobs.{weigh, children_of}
use Rattle.sup_crew.proofs.closing.read_all.Given as goal

abbrev pub invariant-loop : goal.invariant-loop
invariant-loop g l = record {
  endpoint : (l.endpoint.queue ≡ l.jobs) × (l.endpoint.permission.parts ≡ 1024) × (l.endpoint.permission.put ≡ l.fn.endpoint.permission.put);
  account : (h : Child → ℕ) → weigh h l.endpoint.permission.taken + weigh h (children_of (vec_items l.fn.left)) ≡ weigh h l.fn.endpoint.permission.taken + weigh h (children_of (vec_items l.left));
  len : vec_len l.left ≤ vec_len l.fn.left + length l.endpoint.permission.taken;
  room : (vec_len l.fn.left + length l.fn.endpoint.permission.put ≤ vec_capacity l.left);
}
