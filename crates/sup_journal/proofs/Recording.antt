-- What is prepared, and what is recorded.
use Rattle.std.proofs.Common.{◌≡◌, ℕ, ◌+◌, ◌<◌, List, [], ◌∷◌, ◌++◌, length, take, drop, Option, None, Some, Result, Ok, Err, true, refl, sym, ap, subst, ◌∙◌, append_assoc, append-nil, arith}
use Rattle.std.specs.Prelude.{OnOk}
use Rattle.std.specs.Result.{is_ok}
use Rattle.std.specs.Io.KnownBytes.{Appends, Keeps}
use Rattle.std.proofs.KnownBytes.{Appends-trans}
use Rattle.std.proofs.Math.Seq.{take-add}
use Rattle.std.proofs.lemmas.List.{take-append-drop, length-drop}
use Rattle.sup_types.specs.declared.template.Template.{Template}
use Rattle.sup_types.specs.declared.history.Entry.{Entry}
use Rattle.sup_format.specs.Reading.History.{SpellsAs}
use Rattle.sup_format.specs.Writing.HistoryTexts.{SpellsOneMore}
use Rattle.sup_desk.specs.declared.journal.JournalFault.{JournalFault}
use Rattle.sup_desk.specs.declared.journal.JournalFault.TheVariants as end
use Rattle.sup_journal.specs.Ends.{IsStopped, IsLeft}
use Rattle.sup_journal.specs.Records.{IsRecorded, IsCut, HasText, TookPart, IsPut}

Appends-of_kept : (a b c : Option (List ℕ)) (bs : List ℕ) → Keeps a b → Appends b c bs → Appends a c bs
Appends-of_kept None b c bs p q = tt
Appends-of_kept (Some x) None c bs p q = absurd p
Appends-of_kept (Some x) (Some y) None bs p q = absurd q
Appends-of_kept (Some x) (Some y) (Some z) bs p q = q ∙ ap (λ (l : List ℕ). l ++ bs) p

-- nothing waits behind a text
nothing_waits : (text : List ℕ) (template : Template) (entries : List Entry) → SpellsAs text template entries → SpellsAs (text ++ []) template (entries ++ [])
nothing_waits text template entries s =
    subst (λ (l : List ℕ). SpellsAs l template (entries ++ [])) (sym (append-nil text)) (subst (λ (es : List Entry). SpellsAs text template es) (sym (append-nil entries)) s)

pub begun : (held old new : Option (List ℕ)) (text : List ℕ) (template : Template) (entries : List Entry) → Keeps held old → Appends old new text → SpellsAs text template entries
    → IsRecorded held new [] template entries []
begun held old new text template entries keeps took s = record {
  text = text;
  took = Appends-of_kept held old new text keeps took;
  spelled = s;
  waits = nothing_waits text template entries s;
}

module _ (held old : Option (List ℕ)) (waiting : List ℕ) (template : Template) (recorded ready : List Entry) (r : IsRecorded held old waiting template recorded ready) where
  pub prepared : (line : List ℕ) (e : Entry) → SpellsOneMore line e → IsRecorded held old (waiting ++ line) template recorded (ready ++ e ∷ [])
  prepared line e more = record {
    text = r.text;
    took = r.took;
    spelled = r.spelled;
    waits = subst (λ (l : List ℕ). SpellsAs l template (recorded ++ (ready ++ e ∷ []))) (append_assoc r.text waiting line)
        (subst (λ (es : List Entry). SpellsAs ((r.text ++ waiting) ++ line) template es) (append_assoc recorded ready (e ∷ [])) (more (r.text ++ waiting) template (recorded ++ ready) r.waits));
  }

  pub recorded_all : (new : Option (List ℕ)) → Appends old new waiting → IsRecorded held new [] template (recorded ++ ready) []
  recorded_all new took = record {
    text = r.text ++ waiting;
    took = Appends-trans held old new r.text waiting r.took took;
    spelled = r.waits;
    waits = nothing_waits (r.text ++ waiting) template (recorded ++ ready) r.waits;
  }

  cut_off : (new : Option (List ℕ)) (e : JournalFault) → ((left : List ℕ) → 0 < length left → IsLeft (Some e) left) → TookPart old new waiting → IsCut held new (Some e) template recorded ready
  cut_off new e leaves p = record {
    text = r.text;
    part = p.part;
    left = p.left;
    took = Appends-trans held old new r.text p.part r.took p.took;
    is_left = leaves p.left p.some_left;
    spelled = r.spelled;
    whole = subst (λ (l : List ℕ). SpellsAs (r.text ++ l) template (recorded ++ ready)) p.parts r.waits;
  }

  pub torn_off : (new : Option (List ℕ)) (e : JournalFault) → IsPut old new waiting (Err e) → IsCut held new (Some e) template recorded ready
  torn_off new (end.Failed kind) p = cut_off new (end.Failed kind) (λ left some. some) (p.0 tt)
  torn_off new end.TookNothing p = cut_off new end.TookNothing (λ left some. some) (p.0 tt)
  torn_off new (end.NotFlushed kind) p = record {
    text = r.text;
    part = waiting;
    left = [];
    took = Appends-trans held old new r.text waiting r.took (p.1 (λ stopped. stopped));
    is_left = refl;
    spelled = r.spelled;
    whole = subst (λ (l : List ℕ). SpellsAs (r.text ++ l) template (recorded ++ ready)) (sym (append-nil waiting)) r.waits;
  }

-- a history that the writer holds already
pub reopened : (held contents : Option (List ℕ)) (template : Template) (entries : List Entry) → HasText held contents template entries → IsRecorded held contents [] template entries []
reopened held contents template entries h = record {
  text = h.0;
  took = h.1;
  spelled = h.2;
  waits = nothing_waits h.0 template entries h.2;
}

pub of_ok : {T E P : Type 0} (r : Result T E) → is_ok r ≡ true → OnOk r P → P
of_ok (Ok x) ok p = p
of_ok (Err e) ok p = absurd cc

-- ---- one sending

pub taken_more : (old mid new : Option (List ℕ)) (bytes : List ℕ) (taken n : ℕ) → Appends old mid (take taken bytes) → Appends mid new (take n (drop taken bytes)) → Appends old new (take (taken + n) bytes)
taken_more old mid new bytes taken n so_far more = subst (Appends old new) (sym (take-add taken n bytes)) (Appends-trans old mid new _ _ so_far more)

Appends-then_kept : (a b c : Option (List ℕ)) (bs : List ℕ) → Appends a b bs → Keeps b c → Appends a c bs
Appends-then_kept None b c bs p q = tt
Appends-then_kept (Some x) None c bs p q = absurd p
Appends-then_kept (Some x) (Some y) None bs p q = absurd q
Appends-then_kept (Some x) (Some y) (Some z) bs p q = q ∙ p

pub took_part : (old mid new : Option (List ℕ)) (bytes : List ℕ) (taken : ℕ) → taken < length bytes → Appends old mid (take taken bytes) → Keeps mid new → TookPart old new bytes
took_part old mid new bytes taken short so_far kept = record {
  part = take taken bytes;
  left = drop taken bytes;
  parts = sym (take-append-drop taken bytes);
  took = Appends-then_kept old mid new (take taken bytes) so_far kept;
  some_left = omega (arith, short, length-drop taken bytes);
}

-- ---- one sending, and a flush

pub put_cut : (old new : Option (List ℕ)) (bytes : List ℕ) (e : JournalFault) → IsStopped e × TookPart old new bytes → IsPut old new bytes (Err e)
put_cut old new bytes e p = (λ stopped. p.1, λ flushed. absurd (flushed p.0))

pub put_unflushed : (old mid new : Option (List ℕ)) (bytes : List ℕ) (e : JournalFault) → Appends old mid bytes → Keeps mid new → ¬ IsStopped e → IsPut old new bytes (Err e)
put_unflushed old mid new bytes e took kept flushed = (λ stopped. absurd (flushed stopped), λ unstopped. Appends-then_kept old mid new bytes took kept)

pub put_flushed : (old mid new : Option (List ℕ)) (bytes : List ℕ) → Appends old mid bytes → Keeps mid new → Appends old new bytes
put_flushed old mid new bytes took kept = Appends-then_kept old mid new bytes took kept
