-- What a clause sees of a drain, and what it entered.
use Rattle.std.specs.Prelude.{◌≡◌, ℕ, ◌-◌, List, [], ◌∷◌, length, take, Option, MatchOption}
use Rattle.atomic_table.specs.Seated.{TableId}
use Rattle.logbook.specs.Pages.{Book}
use Rattle.sup_types.specs.declared.text.Text.{Text}
use Rattle.sup_types.specs.declared.template.Template.{Template}
use Rattle.sup_types.specs.declared.history.Answer.{Answer}
use Rattle.sup_types.specs.declared.history.Reply.{Reply}
use Rattle.sup_log.specs.Tokens.{Told}
use Rattle.sup_desk.specs.Knowledge.{Knowledge}
use Rattle.sup_desk.specs.Batches.{IsApplied}
use Rattle.sup_inbox.specs.declared.note.Note.{Note}
use Rattle.sup_crew.specs.Exits.{exits}

-- a drain: of which inbox, how many posters there are, and of the notes that it took those that it entered and those that it holds
pub record DrainModel : Type 0 where
  pub inbox : TableId
  pub posters : ℕ
  pub entered : List Note
  pub held : List Note

-- the notes taken, without those that are held
abbrev pub entered_of : List Note → List Note → List Note
entered_of taken held = take (length taken - length held) taken

abbrev pub notes_of : List (Note × Reply) → List Note
notes_of [] = []
notes_of (p ∷ ps) = p.0 ∷ notes_of ps

abbrev pub replies_of : List (Note × Reply) → List Reply
replies_of [] = []
replies_of (p ∷ ps) = p.1 ∷ replies_of ps

-- the exits of these notes were entered together, each as an update, with these replies, up to this ticket; or nothing was
abbrev pub IsEntered : (Text → ℕ → Answer → Type 0) → Template → Book → Knowledge → Knowledge → ℕ → List (Note × Reply) → Option Told → Type 0
IsEntered may template press before after moment pairs ticket =
    MatchOption ticket
    ((pairs ≡ []) × (after.calls ≡ before.calls) × (after.number ≡ before.number))
    (λ told. IsApplied may template press before (exits (notes_of pairs)) moment after (replies_of pairs) told)
