-- The children that updates made are in the front that the updates left.
use Rattle.std.proofs.Common.{ℕ, ◌≤◌, List, [], ◌∷◌, ◌++◌, length, take, Option, Some, None, ap, ◌∙◌, subst, arith}
use Rattle.std.specs.Prelude.{IfSome}
use Rattle.logbook.specs.Pages.{Book}
use Rattle.sup_types.specs.declared.text.Text.{Text}
use Rattle.sup_types.specs.declared.template.Template.{Template}
use Rattle.sup_types.specs.declared.history.Answer.{Answer}
use Rattle.sup_types.specs.declared.history.Operation.{Operation}
use Rattle.sup_types.specs.declared.history.Entry.{Entry}
use Rattle.sup_types.specs.declared.history.Reply.{Reply}
use Rattle.sup_types.specs.declared.history.Reply.TheVariants.{Started, Restarted}
use Rattle.sup_core.specs.Account.{Item, account}
use Rattle.sup_log.specs.Tokens.{Told}
use Rattle.sup_desk.specs.Knowledge.{Knowledge}
use Rattle.sup_desk.specs.Batches.{IsApplied}
use Rattle.sup_desk.specs.BatchLaws.{entered-replies}
use Rattle.sup_inbox.specs.declared.note.Note.{Note}
use Rattle.sup_crew.specs.Births.{IsBornBy, AreBornBy}
use Rattle.sup_crew.specs.Calls.{Call, calls_of, answered, starts_of}
use Rattle.sup_crew.specs.Exits.{exits}
use Rattle.sup_crew.specs.Drains.{notes_of, replies_of, IsEntered}
use Rattle.sup_crew.proofs.Right.{IsRight, AreRightCalls, calls-right}
use Rattle.sup_crew.proofs.Called.{applied-since}
use Rattle.sup_crew.proofs.Driven.{HasStarted}

right_born : (template : Template) (front : List Entry) (operation : Operation) (reply : Reply) → IsRight (account template front) operation reply → IsBornBy template front reply
right_born template front operation (Started number) h = (h.1, h.2)
right_born template front operation (Restarted old number) h = let low = h.1 in (omega (arith, low), h.2)
right_born template front operation _ h = tt

last_of : (items : List Item) (cs ds : List Call) → AreRightCalls items (cs ++ ds) → AreRightCalls items ds
last_of items [] ds h = h
last_of items (c ∷ cs) ds h = last_of items cs ds h.2

calls_born : (template : Template) (front : List Entry) (operations : List Operation) (replies : List Reply) → length replies ≤ length operations → AreRightCalls (account template front) (answered operations replies) → AreBornBy template front replies
calls_born template front operations [] low h = tt
calls_born template front [] (r ∷ rs) low h = absurd (omega (arith, low))
calls_born template front (o ∷ os) (r ∷ rs) low h = (right_born template front o r h.0, calls_born template front os rs (omega (arith, low)) h.2)

module _ (may : Text → ℕ → Answer → Type 0) (template : Template) (press : Book) (before after : Knowledge) where
  -- the children that updates made which were entered together
  pub applied-born : (operations : List Operation) (moment : ℕ) (replies : List Reply) (told : Told) → IsApplied may template press before operations moment after replies told → AreBornBy template told.front replies
  applied-born operations moment replies told h =
      let cs = calls_of template h.front before.number in
      let all = ap (λ (t : Told). calls_of template t.front before.number) h.told_is ∙ applied-since may template press before after operations moment replies told h in
      let right = subst (AreRightCalls (account template told.front)) all (calls-right template told.front before.number) in
      let low = entered-replies may template before.number moment h.front (length before.calls) operations h.entries replies h.entered in
      calls_born template told.front operations replies (omega (arith, low)) (last_of (account template told.front) cs (answered operations replies) right)

  -- the children that the exits of a drain made
  pub entered-born : (pairs : List (Note × Reply)) (moment : ℕ) (ticket : Option Told) → IsEntered may template press before after moment pairs ticket → IfSome ticket (λ t. AreBornBy template t.front (replies_of pairs))
  entered-born pairs moment None h = tt
  entered-born pairs moment (Some told) h = applied-born (exits (notes_of pairs)) moment (replies_of pairs) told h

  -- those that starts made
  pub started-born : (args : List Text) (moment : ℕ) (replies : List Reply) (ticket : Option Told) → HasStarted may template press before after moment args replies ticket → IfSome ticket (λ t. AreBornBy template t.front replies)
  started-born args moment replies None h = tt
  started-born args moment replies (Some told) h = applied-born (take (length replies) (starts_of args)) moment replies told h.0
