-- The tally of further calls.
use Rattle.std.proofs.Common.{◌≡◌, ◌+◌, ◌≤◌, Bool, true, false, cond, List, [], ◌∷◌, ◌++◌, length, take, refl, ap, sym, ◌∙◌, arith, append_assoc, append-nil}
use Rattle.std.specs.Prelude.{not, ◌&&◌, count_by}
use Rattle.std.proofs.lemmas.List.Sums.{fold_push}
use Rattle.sup_types.specs.declared.text.Text.{Text}
use Rattle.sup_types.specs.declared.history.Operation.TheVariants.{Start, Exit}
use Rattle.sup_types.specs.declared.history.Reply.{Reply}
use Rattle.sup_inbox.specs.declared.note.Note.{Note}
use Rattle.sup_core.specs.Changes.{makes_child}
use Rattle.sup_crew.specs.declared.driver.Tally.{Tally}
use Rattle.sup_crew.specs.Calls.{Call, answered, starts_of}
use Rattle.sup_crew.specs.Exits.{exits}
use Rattle.sup_crew.specs.Drains.{notes_of, replies_of}
use Rattle.sup_crew.specs.Tallies.{is_start, is_exit, is_stray, is_down, is_restart, is_giving_up, bit, tally_of, with_reply, with_replies}

count_push : (p : Call → Bool) (cs : List Call) (c : Call) → count_by p (cs ++ c ∷ []) ≡ count_by p cs + bit (p c)
count_push p cs c = fold_push (λ a x. a + cond (p x) 1 0) 0 cs c ∙ ap (λ n. count_by p cs + n) (one (p c))
  where
    one : (b : Bool) → cond b 1 0 ≡ bit b
    one true = refl
    one false = refl

tally-more : (cs : List Call) (c : Call) (exits : Bool) → is_exit c.operation ≡ exits → is_start c.operation ≡ not exits → tally_of (cs ++ c ∷ []) ≡ with_reply (tally_of cs) exits c.reply
tally-more cs c exits e s =
    let made = count_push (λ c. makes_child c.reply) cs c in
    let counts = count_push (λ c. is_exit c.operation) cs c ∙ ap (λ b. count_by (λ c. is_exit c.operation) cs + bit b) e in
    let strays = count_push (λ c. is_exit c.operation && is_stray c.reply) cs c ∙ ap (λ b. count_by (λ c. is_exit c.operation && is_stray c.reply) cs + bit (b && is_stray c.reply)) e in
    let downs = count_push (λ c. is_exit c.operation && is_down c.reply) cs c ∙ ap (λ b. count_by (λ c. is_exit c.operation && is_down c.reply) cs + bit (b && is_down c.reply)) e in
    let restarts = count_push (λ c. is_exit c.operation && is_restart c.reply) cs c ∙ ap (λ b. count_by (λ c. is_exit c.operation && is_restart c.reply) cs + bit (b && is_restart c.reply)) e in
    let given_up = count_push (λ c. is_exit c.operation && is_giving_up c.reply) cs c ∙ ap (λ b. count_by (λ c. is_exit c.operation && is_giving_up c.reply) cs + bit (b && is_giving_up c.reply)) e in
    let refused = count_push (λ c. is_start c.operation && not (makes_child c.reply)) cs c ∙ ap (λ b. count_by (λ c. is_start c.operation && not (makes_child c.reply)) cs + bit (b && not (makes_child c.reply))) s in
    λ i. record { made = made i; exits = counts i; strays = strays i; downs = downs i; restarts = restarts i; given_up = given_up i; refused = refused i }

pub tally-exits : (t : Tally) (cs : List Call) (pairs : List (Note × Reply)) → t ≡ tally_of cs → with_replies t true (replies_of pairs) ≡ tally_of (cs ++ answered (exits (notes_of pairs)) (replies_of pairs))
tally-exits t cs [] e = e ∙ ap tally_of (sym (append-nil cs))
tally-exits t cs (p ∷ ps) e =
    let c : Call = record { operation = Exit p.0.number p.0.reason; reply = p.1 } in
    tally-exits (with_reply t true p.1) (cs ++ c ∷ []) ps (ap (λ u. with_reply u true p.1) e ∙ sym (tally-more cs c true refl refl))
    ∙ ap tally_of (append_assoc cs (c ∷ []) (answered (exits (notes_of ps)) (replies_of ps)))

-- each reply is to the start of one of the first of these
pub tally-starts : (t : Tally) (cs : List Call) (args : List Text) (replies : List Reply) → length replies ≤ length args → t ≡ tally_of cs
    → with_replies t false replies ≡ tally_of (cs ++ answered (take (length replies) (starts_of args)) replies)
tally-starts t cs args [] low e = e ∙ ap tally_of (sym (append-nil cs))
tally-starts t cs [] (r ∷ rs) low e = absurd (omega (arith, low))
tally-starts t cs (a ∷ args) (r ∷ rs) low e =
    let c : Call = record { operation = Start a; reply = r } in
    tally-starts (with_reply t false r) (cs ++ c ∷ []) args rs (omega (arith, low)) (ap (λ u. with_reply u false r) e ∙ sym (tally-more cs c false refl refl))
    ∙ ap tally_of (append_assoc cs (c ∷ []) (answered (take (length rs) (starts_of args)) rs))
