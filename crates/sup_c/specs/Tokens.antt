-- The callers' values of children, by number: 0 if none was given.
use Rattle.std.specs.Prelude.{ℕ, ◌==◌, unwrap_or, if◌then◌else◌, nat_eq}
use Rattle.std.specs.HashMap.{HashMap, get}
use Rattle.sup_types.specs.declared.history.Operation.{Operation}
use Rattle.sup_types.specs.declared.history.Operation.TheVariants.{Start, Exit, Retry, Terminate, Stop}
use Rattle.sup_types.specs.declared.history.Reply.{Reply}
use Rattle.sup_types.specs.declared.history.Reply.TheVariants.{Started, Removed, Restarted, Ignored, Ended}

-- the value that a map has for a child
abbrev pub token_in : {S : Type 0} → HashMap ℕ ℕ S → ℕ → ℕ
token_in map number = unwrap_or (get nat_eq map number) 0

-- the values with that of one child changed
abbrev pub with_token : (ℕ → ℕ) → ℕ → ℕ → ℕ → ℕ
with_token tokens number token other = if number == other then token else tokens other

-- the number of the operation's child, or 0 if it names none
abbrev pub number_of : Operation → ℕ
number_of (Start argument) = 0
number_of (Exit number reason) = number
number_of (Retry number) = number
number_of (Terminate number) = number
number_of Stop = 0

-- the values after an entry on the child with this number, if it names one, that had this reply: a child has the value that was given
-- with its start, one that is started again has that of the child which it replaces, and one that is not listed any more has none.
-- Those that the supervisor takes down keep theirs
abbrev pub tokens_after : (ℕ → ℕ) → ℕ → ℕ → Reply → ℕ → ℕ
tokens_after tokens number token (Started made) = with_token tokens made token
tokens_after tokens number token (Restarted old next) = with_token (with_token tokens old 0) next (tokens old)
tokens_after tokens number token (Removed gone) = with_token tokens gone 0
tokens_after tokens number token (Ignored gone) = with_token tokens gone 0
tokens_after tokens number token Ended = with_token tokens number 0
tokens_after tokens number token _ = tokens

-- the value that comes with the reply: that of the operation's child, or for a start the one that was given
abbrev pub token_told : (ℕ → ℕ) → Operation → ℕ → ℕ
token_told tokens (Start argument) token = token
token_told tokens operation token = tokens (number_of operation)
