-- The text of replies: each is a line of words, and the rows are one line each and one more.
use Rattle.std.specs.Prelude.{◌≡◌, ℕ, List, [], ◌∷◌, ◌++◌, length, codes}
use Rattle.std.specs.List.{join_with_byte, flat_map}
use Rattle.std.specs.Fmt.{decimal}
use Rattle.sup_types.specs.declared.history.Reply.{Reply}
use Rattle.sup_types.specs.declared.history.Reply.TheVariants as reply
use Rattle.sup_types.specs.declared.view.Row.{Row}
use Rattle.sup_types.specs.declared.view.Counts.{Counts}
use Rattle.sup_types.specs.declared.view.Status.{Status}
use Rattle.sup_types.specs.declared.view.Status.TheVariants as status
use Rattle.sup_types.specs.declared.view.Seen.{Seen}
use Rattle.sup_types.specs.declared.view.Seen.TheVariants as seen
use Rattle.sup_types.specs.declared.view.Refusal.{Refusal}
use Rattle.sup_types.specs.declared.view.Refusal.TheVariants.{SimpleOneForOne}
use Rattle.sup_format.specs.declared.write.reply.Field.{Field}
use Rattle.sup_format.specs.declared.write.reply.Field.TheVariants as field

-- words with a space between each two, and a line feed
abbrev pub line_of : List (List ℕ) → List ℕ
line_of words = join_with_byte 32 words ++ 10 ∷ []

abbrev pub reply_words : Reply → List (List ℕ)
reply_words (reply.Started n) = codes "ok" ∷ decimal n ∷ []
reply_words reply.Undefined = codes "ok" ∷ codes "undefined" ∷ []
reply_words (reply.StartFailed code) = codes "error" ∷ codes "start_failed" ∷ decimal code ∷ []
reply_words reply.Full = codes "error" ∷ codes "full" ∷ []
reply_words (reply.Removed n) = codes "removed" ∷ decimal n ∷ []
reply_words (reply.ShutDown n) = codes "shut_down" ∷ decimal n ∷ []
reply_words (reply.Restarted n m) = codes "restarted" ∷ decimal n ∷ decimal m ∷ []
reply_words (reply.Restarting n code) = codes "restarting" ∷ decimal n ∷ decimal code ∷ []
reply_words (reply.Ignored n) = codes "ignored" ∷ decimal n ∷ []
reply_words (reply.Stray n) = codes "stray" ∷ decimal n ∷ []
reply_words reply.NotFound = codes "error" ∷ codes "not_found" ∷ []
reply_words reply.Ended = codes "ok" ∷ []
reply_words reply.Stopped = codes "stopped" ∷ []
reply_words reply.GaveUp = codes "gave_up" ∷ []
reply_words reply.Down = codes "error" ∷ codes "down" ∷ []

abbrev pub reply_text : Reply → List ℕ
reply_text r = line_of (reply_words r)

-- ---- the answers to `which` and `count`

abbrev pub status_word : Status → List ℕ
status_word status.Running = codes "running"
status_word status.Restarting = codes "restarting"

abbrev pub row_text : Row → List ℕ
row_text row = line_of (codes "child" ∷ decimal row.number ∷ status_word row.status ∷ row.arg ∷ [])

abbrev pub rows_text : List Row → List ℕ
rows_text rows = flat_map row_text rows ++ line_of (codes "end" ∷ decimal (length rows) ∷ [])

abbrev pub counts_text : Counts → List ℕ
counts_text c =
    line_of (codes "count" ∷ codes "specs" ∷ decimal c.specs ∷ codes "active" ∷ decimal c.active ∷ codes "supervisors" ∷ decimal c.supervisors ∷ codes "workers" ∷ decimal c.workers ∷ [])

abbrev pub which_text : Seen (List Row) → List ℕ
which_text (seen.Up rows) = rows_text rows
which_text seen.Down = reply_text reply.Down

abbrev pub count_text : Seen Counts → List ℕ
count_text (seen.Up counts) = counts_text counts
count_text seen.Down = reply_text reply.Down

-- the answer to a call by identifier
abbrev pub refusal_text : Refusal → List ℕ
refusal_text SimpleOneForOne = line_of (codes "error" ∷ codes "simple_one_for_one" ∷ [])

-- ---- what is appended

-- the word that a field writes
abbrev pub field_word : Field → List ℕ
field_word (field.Word bytes) = bytes.now
field_word (field.Number n) = decimal n
field_word (field.Term term) = codes "shutdown:" ++ term.now

-- words with a space after each
abbrev pub spaced : List (List ℕ) → List ℕ
spaced words = flat_map (λ word. word ++ 32 ∷ []) words

-- new is old with some bytes after it
abbrev pub Grows : List ℕ → List ℕ → Type 0
Grows old new = (more : List ℕ) × (new ≡ old ++ more)
