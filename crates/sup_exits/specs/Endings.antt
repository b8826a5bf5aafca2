-- For which reasons a crew tells that a child ended: one that the child's behaviour allows, or one of the crew's own.
use Rattle.std.specs.Prelude.{◌≡◌, Bool, true, false, ◌||◌, List, All, codes}
use Rattle.std.specs.Str.{bytes_eq}
use Rattle.sup_types.specs.declared.reason.Reason.{Reason}
use Rattle.sup_types.specs.declared.reason.Reason.TheVariants.{Other}
use Rattle.sup_exits.specs.declared.exit.Exit.{Exit}

-- why a child ended that was let go
abbrev pub killed : Reason
killed = Other (codes "killed")

-- why a child ended that could not be run
abbrev pub not_run : Reason
not_run = Other (codes "not_run")

-- whether it is one of these two
abbrev pub is_crews : Reason → Bool
is_crews (Other word) = bytes_eq word (codes "killed") || bytes_eq word (codes "not_run")
is_crews _ = false

-- whether a crew may tell it: it is one of its own, or one for which a child may end
abbrev pub is_ending : (Reason → Bool) → Reason → Bool
is_ending may_end reason = is_crews reason || may_end reason

-- each of these exits gives a reason that a crew may tell
abbrev pub AreEndings : (Reason → Bool) → List Exit → Type 0
AreEndings may_end exits = All (λ e. is_ending may_end e.reason ≡ true) exits
