-- How many calls there are of each kind.
use Rattle.std.specs.Prelude.{ℕ, ◌+◌, Bool, true, false, not, ◌&&◌, List, [], ◌∷◌, count_by}
use Rattle.sup_types.specs.declared.history.Operation.{Operation}
use Rattle.sup_types.specs.declared.history.Operation.TheVariants.{Start, Exit}
use Rattle.sup_types.specs.declared.history.Reply.{Reply}
use Rattle.sup_types.specs.declared.history.Reply.TheVariants.{Stray, Down, Restarted, GaveUp}
use Rattle.sup_core.specs.Changes.{makes_child}
use Rattle.sup_crew.specs.declared.driver.Tally.{Tally}
use Rattle.sup_crew.specs.Calls.{Call}

abbrev pub is_start : Operation → Bool
is_start (Start arg) = true
is_start _ = false

abbrev pub is_exit : Operation → Bool
is_exit (Exit number reason) = true
is_exit _ = false

abbrev pub is_stray : Reply → Bool
is_stray (Stray number) = true
is_stray _ = false

abbrev pub is_down : Reply → Bool
is_down Down = true
is_down _ = false

abbrev pub is_restart : Reply → Bool
is_restart (Restarted old number) = true
is_restart _ = false

abbrev pub is_giving_up : Reply → Bool
is_giving_up GaveUp = true
is_giving_up _ = false

-- the calls that made a child, those that were exits, those that were exits with such replies, and the starts that made none
abbrev pub tally_of : List Call → Tally
tally_of cs =
    record {
      made = count_by (λ c. makes_child c.reply) cs;
      exits = count_by (λ c. is_exit c.operation) cs;
      strays = count_by (λ c. is_exit c.operation && is_stray c.reply) cs;
      downs = count_by (λ c. is_exit c.operation && is_down c.reply) cs;
      restarts = count_by (λ c. is_exit c.operation && is_restart c.reply) cs;
      given_up = count_by (λ c. is_exit c.operation && is_giving_up c.reply) cs;
      refused = count_by (λ c. is_start c.operation && not (makes_child c.reply)) cs;
    }

abbrev pub bit : Bool → ℕ
bit true = 1
bit false = 0

-- one call more: an exit, or else a start
abbrev pub with_reply : Tally → Bool → Reply → Tally
with_reply t exits reply =
    record {
      made = t.made + bit (makes_child reply);
      exits = t.exits + bit exits;
      strays = t.strays + bit (exits && is_stray reply);
      downs = t.downs + bit (exits && is_down reply);
      restarts = t.restarts + bit (exits && is_restart reply);
      given_up = t.given_up + bit (exits && is_giving_up reply);
      refused = t.refused + bit (not exits && not (makes_child reply));
    }

-- further calls: exits, or else starts
abbrev pub with_replies : Tally → Bool → List Reply → Tally
with_replies t exits [] = t
with_replies t exits (reply ∷ replies) = with_replies (with_reply t exits reply) exits replies
