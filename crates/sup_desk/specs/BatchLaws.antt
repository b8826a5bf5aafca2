-- A batch that grows by one operation.
use Rattle.std.proofs.Common.{◌≡◌, ℕ, zero, suc, ◌+◌, List, [], ◌∷◌, ◌++◌, length, take, refl, ap, sym, ◌∙◌, subst, arith, append_assoc, append-nil, add-one, get_or, ◌<◌}
use Rattle.sup_types.specs.declared.text.Text.{Text}
use Rattle.sup_types.specs.declared.template.Template.{Template}
use Rattle.sup_types.specs.declared.history.Answer.{Answer}
use Rattle.sup_types.specs.declared.history.Operation.{Operation}
use Rattle.sup_types.specs.declared.history.Entry.{Entry}
use Rattle.sup_types.specs.declared.history.Reply.{Reply}
use Rattle.sup_core.specs.Account.{reply_after}
use Rattle.sup_desk.specs.Knowledge.{entries_of, IsEntryOf}
use Rattle.sup_desk.specs.Batches.{AreEntered}
use Rattle.sup_desk.specs.EntryLaws.{entries-own, entries-append}

module _ (may : Text → ℕ → Answer → Type 0) (template : Template) (number moment : ℕ) where
  -- an entry, where the front and the serial are told otherwise
  entry_at : (front front' : List Entry) (serial serial' : ℕ) (o : Operation) (e : Entry) → front ≡ front' → serial ≡ serial'
      → IsEntryOf may template front number serial o moment e → IsEntryOf may template front' number serial' o moment e
  entry_at front front' serial serial' o e same count is =
      subst (λ (k : ℕ). IsEntryOf may template front' number k o moment e) count
      (subst (λ (l : List Entry). IsEntryOf may template l number serial o moment e) same is)

  -- one operation more
  pub entered-push : (front : List Entry) (serial : ℕ) (os : List Operation) (es : List Entry) (rs : List Reply) (o : Operation) (e : Entry) (r : Reply)
      → AreEntered may template number moment front serial os es rs → IsEntryOf may template (front ++ es) number (serial + length es) o moment e
      → r ≡ reply_after template (front ++ es) e → AreEntered may template number moment front serial (os ++ o ∷ []) (es ++ e ∷ []) (rs ++ r ∷ [])
  entered-push front serial [] es rs o e r done is told =
      let same : front ++ es ≡ front = ap (λ l. front ++ l) done.0 ∙ append-nil front in (
        e,
        [],
        [],
        ap (λ l. l ++ e ∷ []) done.0,
        ap (λ l. l ++ r ∷ []) done.1 ∙ ap (λ (x : Reply). x ∷ []) (told ∙ ap (λ l. reply_after template l e) same),
        entry_at (front ++ es) front (serial + length es) serial o e same (omega (arith, ap length done.0)) is,
        (refl, refl),
      )
  entered-push front serial (p ∷ os) es rs o e r (x, xs, ys, entries, replies, first, rest) is told =
      let longer : front ++ es ≡ (front ++ x ∷ []) ++ xs = ap (λ l. front ++ l) entries ∙ sym (append_assoc front (x ∷ []) xs) in (
        x,
        xs ++ e ∷ [],
        ys ++ r ∷ [],
        ap (λ l. l ++ e ∷ []) entries,
        ap (λ l. l ++ r ∷ []) replies,
        first,
        entered-push (front ++ x ∷ []) (serial + 1) os xs ys o e r rest
            (entry_at (front ++ es) ((front ++ x ∷ []) ++ xs) (serial + length es) (serial + 1 + length xs) o e longer (omega (arith, ap length entries)) is)
            (told ∙ ap (λ l. reply_after template l e) longer),
      )

  -- all entries are of the handle
  pub entered-own : (front : List Entry) (serial : ℕ) (os : List Operation) (es : List Entry) (rs : List Reply) → AreEntered may template number moment front serial os es rs
      → entries_of es number ≡ es
  entered-own front serial [] es rs done = ap (λ l. entries_of l number) done.0 ∙ sym done.0
  entered-own front serial (o ∷ os) es rs (x, xs, ys, entries, replies, first, rest) =
      ap (λ l. entries_of l number) entries ∙ entries-append number (x ∷ []) xs
      ∙ ap (λ l. l ++ entries_of xs number) (entries-own number x first.handle_is)
      ∙ ap (λ l. x ∷ l) (entered-own (front ++ x ∷ []) (serial + 1) os xs ys rest) ∙ sym entries

  pub entered-entries : (front : List Entry) (serial : ℕ) (os : List Operation) (es : List Entry) (rs : List Reply) → AreEntered may template number moment front serial os es rs
      → length es ≡ length os
  entered-entries front serial [] es rs done = ap length done.0
  entered-entries front serial (o ∷ os) es rs (x, xs, ys, entries, replies, first, rest) =
      ap length entries ∙ ap suc (entered-entries (front ++ x ∷ []) (serial + 1) os xs ys rest)

  pub entered-replies : (front : List Entry) (serial : ℕ) (os : List Operation) (es : List Entry) (rs : List Reply) → AreEntered may template number moment front serial os es rs
      → length rs ≡ length os
  entered-replies front serial [] es rs done = ap length done.1
  entered-replies front serial (o ∷ os) es rs (x, xs, ys, entries, replies, first, rest) =
      ap length replies ∙ ap suc (entered-replies (front ++ x ∷ []) (serial + 1) os xs ys rest)

next_suc : {A : Type 0} (k : ℕ) (xs : List A) (x : A) → k < length xs → x ≡ get_or xs k x → take (suc k) xs ≡ take k xs ++ x ∷ []
next_suc k [] x low is = absurd (omega (arith, low))
next_suc zero (y ∷ ys) x low is = ap (λ z. z ∷ []) (sym is)
next_suc (suc k) (y ∷ ys) x low is = ap (λ l. y ∷ l) (next_suc k ys x (omega (arith, low)) is)

-- one operation more of a queue
pub next_of : {A : Type 0} (k : ℕ) (xs : List A) (x : A) → k < length xs → x ≡ get_or xs k x → take (k + 1) xs ≡ take k xs ++ x ∷ []
next_of k xs x low is = rw add-one (next_suc k xs x low is)
