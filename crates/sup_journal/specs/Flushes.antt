-- When a record is flushed.
use Rattle.std.specs.Prelude.{ℕ, ◌<◌}
use Rattle.sup_journal.specs.declared.flushing.Flush.{Flush}
use Rattle.sup_journal.specs.declared.flushing.Flush.TheVariants as flush

-- a record of so many entries is flushed
abbrev pub IsDue : Flush → ℕ → Type 0
IsDue flush.Never entries = ⊥
IsDue flush.EachBatch entries = 1 < entries
IsDue flush.EachUpdate entries = Unit {0}
