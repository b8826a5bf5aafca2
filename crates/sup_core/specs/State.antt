-- What the next reply and the queries depend on.
use Rattle.std.specs.Prelude.{ℕ, ◌+◌, List, Bool, max, if◌then◌else◌}
use Rattle.sup_types.specs.declared.template.Template.{Template}
use Rattle.sup_types.specs.declared.view.Row.{Row}
use Rattle.sup_types.specs.declared.view.Seen.{Seen}
use Rattle.sup_types.specs.declared.view.Seen.TheVariants.{Up}
use Rattle.sup_types.specs.declared.view.Seen.TheVariants as seen

-- what the replies and the queries depend on
pub record State : Type 0 where
  pub template : Template
  -- the listed children, by ascending numbers
  pub rows : List Row
  -- how many children were made, so the number of the last one
  pub made : ℕ
  -- the greatest moment so far
  pub latest : ℕ
  -- the moments of the attempts to restart
  pub attempts : List ℕ
  -- whether the supervisor gave up, was stopped or went down with a significant child
  pub down : Bool
  -- how many entries there were
  pub steps : ℕ

-- the state once an entry with this moment is there: a moment lower than an earlier one is taken as the highest so far
abbrev pub arrived : State → ℕ → State
arrived s moment =
    record {
      template = s.template;
      rows = s.rows;
      made = s.made;
      latest = max s.latest moment;
      attempts = s.attempts;
      down = s.down;
      steps = s.steps + 1;
    }

-- what a query answers: a value while the supervisor is up
abbrev pub seen_of : {X : Type 0} → State → X → Seen X
seen_of s x = if s.down then seen.Down else Up x

-- P holds of the value that is seen, and Q where the supervisor is down
abbrev pub MatchSeen : {X : Type 0} → Seen X → (X → Type 0) → Type 0 → Type 0
MatchSeen (Up x) P Q = P x
MatchSeen seen.Down P Q = Q
