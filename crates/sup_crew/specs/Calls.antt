-- The calls of one handle in a history, each with its reply, and the children that they made.
use Rattle.std.specs.Prelude.{ℕ, ◌==◌, List, [], ◌∷◌, ◌++◌, map, filter}
use Rattle.sup_types.specs.declared.text.Text.{Text}
use Rattle.sup_types.specs.declared.template.Template.{Template}
use Rattle.sup_types.specs.declared.history.Operation.{Operation}
use Rattle.sup_types.specs.declared.history.Operation.TheVariants.{Start, Exit}
use Rattle.sup_types.specs.declared.history.Entry.{Entry}
use Rattle.sup_types.specs.declared.history.Reply.{Reply}
use Rattle.sup_types.specs.declared.history.Reply.TheVariants.{Started, Restarted}
use Rattle.sup_core.specs.Account.{Item, account, argument_of}
use Rattle.sup_inbox.specs.declared.note.Note.{Note}
use Rattle.sup_crew.specs.Exits.{exit_of}
use Rattle.sup_crew.specs.declared.job.Child.{Child}

-- an operation, and the reply to it
pub record Call : Type 0 where
  pub operation : Operation
  pub reply : Reply

abbrev pub call_of : Item → Call
call_of item = record { operation = item.entry.operation; reply = item.reply }

-- the calls of the handle with this number
abbrev pub calls_of : Template → List Entry → ℕ → List Call
calls_of template history number = map call_of (filter (λ item. item.entry.handle == number) (account template history))

-- these operations with these replies
abbrev pub answered : List Operation → List Reply → List Call
answered [] replies = []
answered (o ∷ os) [] = []
answered (o ∷ os) (r ∷ rs) = record { operation = o; reply = r } ∷ answered os rs

-- the child that a call with this reply made, with the argument that the account gives it
abbrev pub child_made : List Item → Reply → List Child
child_made items (Started number) = record { number = number; arg = argument_of items number } ∷ []
child_made items (Restarted old number) = record { number = number; arg = argument_of items number } ∷ []
child_made items _ = []

abbrev pub children_made : List Item → List Call → List Child
children_made items [] = []
children_made items (c ∷ cs) = child_made items c.reply ++ children_made items cs

-- the exits among the calls
abbrev pub exits_in : List Call → List Operation
exits_in [] = []
exits_in (c ∷ cs) = exit_of c.operation ++ exits_in cs

-- the arguments of the starts among them
abbrev pub start_of : Operation → List Text
start_of (Start arg) = arg ∷ []
start_of _ = []

-- the starts of children with these arguments
abbrev pub starts_of : List Text → List Operation
starts_of [] = []
starts_of (arg ∷ args) = Start arg ∷ starts_of args

abbrev pub starts_in : List Call → List Text
starts_in [] = []
starts_in (c ∷ cs) = start_of c.operation ++ starts_in cs

-- the job for a child that a call made: with the argument of the start, or that of the note whose exit was answered by a restart
abbrev pub job_made : Operation → Reply → List Note → List Child
job_made (Start arg) (Started number) notes = record { number = number; arg = arg } ∷ []
job_made (Exit ended reason) (Restarted old number) (note ∷ notes) = record { number = number; arg = note.arg } ∷ []
job_made _ _ _ = []

-- the notes that remain for the calls after this one
abbrev pub notes_after : Operation → List Note → List Note
notes_after (Exit ended reason) (note ∷ notes) = notes
notes_after _ notes = notes

-- the jobs for the children that the calls made, where each exit is that of the next note
abbrev pub jobs_made : List Call → List Note → List Child
jobs_made [] notes = []
jobs_made (c ∷ cs) notes = job_made c.operation c.reply notes ++ jobs_made cs (notes_after c.operation notes)

-- an operation that a driver enters
abbrev pub IsDriven : Operation → Type 0
IsDriven (Start arg) = Unit {0}
IsDriven (Exit number reason) = Unit {0}
IsDriven _ = ⊥

abbrev pub AreDriven : List Call → Type 0
AreDriven [] = Unit {0}
AreDriven (c ∷ cs) = IsDriven c.operation × AreDriven cs
