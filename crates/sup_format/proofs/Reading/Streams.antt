-- How the reading of a stream continues.
use Rattle.std.proofs.Common.{◌≡◌, ℕ, ◌+◌, ◌-◌, ◌<◌, ◌≤◌, Bool, true, false, List, [], ◌∷◌, ◌++◌, length, take, drop, Option, Result, Ok, nat_lt, refl, sym, ap, subst, ◌∙◌, append_assoc, append-nil, arith}
use Rattle.std.specs.Io.KnownBytes.{IsAtEnd}
use Rattle.std.proofs.KnownBytes.{Consumes-trans}
use Rattle.std.proofs.lemmas.List.{length-append, take_all, take-append-drop}
use Rattle.std.proofs.lemmas.Bool.{ltb-true, ltb-false}
use Rattle.sup_types.specs.declared.template.Template.{Template}
use Rattle.sup_types.specs.declared.history.Entry.{Entry}
use Rattle.sup_format.specs.declared.fault.Fault.{Fault}
use Rattle.sup_format.specs.HistorySteps.{read_more, split_parts}
use Rattle.sup_format.specs.LineLaws.{full-both, full-right}
use Rattle.sup_format.specs.Reading.History.{EntryMeans}
use Rattle.sup_format.specs.Reading.HistoryReading.{IsReadTo}
use Rattle.sup_format.specs.Reading.Streams.{Stream, EndsFeed, IsFed, IsStreamed, IsUnread}
use Rattle.sup_format.specs.Reading.Texts.{IsFull}
use Rattle.sup_format.specs.Reading.Words.{IsSplit}

-- ---- a piece

pub drop_to : (xs ys : List ℕ) (n : ℕ) → n ≡ length xs → drop n (xs ++ ys) ≡ ys
drop_to [] ys n e = rw e refl
drop_to (x ∷ xs) ys n e = rw e (drop_to xs ys (length xs) refl)

pub rest_of : (piece ended rest : List ℕ) → piece ≡ ended ++ rest → take (length piece - length ended) (drop (length ended) piece) ≡ rest
rest_of piece ended rest parts =
    let len = ap length parts in
    let behind : drop (length ended) piece ≡ rest = ap (drop (length ended)) parts ∙ drop_to ended rest (length ended) refl in
    ap (take (length piece - length ended)) behind ∙ take_all (length piece - length ended) rest (omega (arith, len, length-append ended rest))

pub feed_ends : (s : Stream) (more : List ℕ) (count : ℕ) → length more ≡ count → (count ≡ 0 → (s.ready ≡ []) × IsAtEnd s.left) → EndsFeed s more (Ok (nat_lt 0 count))
feed_ends s more count e end = by_test (nat_lt 0 count) refl where
  by_test : (b : Bool) → nat_lt 0 count ≡ b → EndsFeed s more (Ok b)
  by_test true is = let some : 0 < count = ltb-true _ _ is in omega (arith, e, some)
  by_test false is = let none : count ≤ 0 = ltb-false _ _ is in end (omega (arith, none))

-- what is read to an end is read to the end of what came before, where more comes
pub read_on : (text rest more : List ℕ) (template : Template) (entries : List Entry) (line : ℕ) → rest ≡ [] → IsReadTo text rest template entries line → IsReadTo (text ++ more) more template entries line
read_on text rest more template entries line none r = record {
  done = r.done;
  parts = ap (λ (l : List ℕ). l ++ more) (r.parts ∙ ap (λ (l : List ℕ). r.done ++ l) none ∙ append-nil r.done);
  full = r.full;
  first = r.first;
  body = r.body;
  lines = r.lines;
  first_is = r.first_is;
  entries_are = r.entries_are;
  number_is = r.number_is;
}

module _ (initial : Option (List ℕ)) (old new : Stream) (result : Result Bool Fault) (f : IsFed old new result) where
  pub fed_unread : IsUnread initial old → IsUnread initial new
  fed_unread u = record {
    given = u.given ++ f.more;
    took = Consumes-trans initial old.left new.left u.given f.more u.took f.took;
    count = omega (arith, f.count, u.count, length-append u.given f.more);
    parts = ap (λ (l : List ℕ). l ++ f.more) (u.parts ∙ ap (λ (l : List ℕ). l ++ old.torn) f.none) ∙ f.parts;
    full = f.full;
    lacks = f.lacks u.lacks;
    first = f.same ∙ u.first;
  }

  pub fed_streamed : (first : List ℕ) (template : Template) (entries : List Entry) → IsStreamed initial old first template entries → IsStreamed initial new first template entries
  fed_streamed first template entries s = record {
    given = s.given ++ f.more;
    took = Consumes-trans initial old.left new.left s.given f.more s.took f.took;
    count = omega (arith, f.count, s.count, length-append s.given f.more);
    whole = s.whole ++ new.ready;
    parts = ap (λ (l : List ℕ). l ++ f.more) s.parts ∙ append_assoc s.whole old.torn f.more ∙ ap (λ (l : List ℕ). s.whole ++ l) f.parts ∙ sym (append_assoc s.whole new.ready new.torn);
    body = s.body ++ new.ready;
    begins = ap (λ (l : List ℕ). l ++ new.ready) s.begins ∙ append_assoc first s.body new.ready;
    full = full-both s.whole new.ready s.full f.full;
    lacks = f.lacks s.lacks;
    so_far = subst (λ (n : ℕ). IsReadTo (s.whole ++ new.ready) new.ready template entries n) (sym f.same) (read_on s.whole old.ready new.ready template entries old.next f.none s.so_far);
  }

-- ---- what was given

-- the bytes of a list from a place on, which are a front and the rest of it, from the rest on
pub rest_from : (items front rest : List ℕ) (at n : ℕ) → n ≡ length items → drop at items ≡ front ++ rest → drop (n - length rest) items ≡ rest
rest_from items front rest at n is e =
    let whole : items ≡ (take at items ++ front) ++ rest = sym (take-append-drop at items) ∙ ap (λ (l : List ℕ). take at items ++ l) e ∙ sym (append_assoc (take at items) front rest) in
    let len : length items ≡ length (take at items ++ front) + length rest = ap length whole ∙ length-append (take at items ++ front) rest in
    subst (λ (l : List ℕ). drop (n - length rest) l ≡ rest) (sym whole) (drop_to (take at items ++ front) rest (n - length rest) (omega (arith, is, len)))

pub full_behind : (text line rest : List ℕ) → IsSplit 10 text line rest → IsFull text → IsFull rest
full_behind text line rest split full = full-right (line ++ 10 ∷ []) rest (subst IsFull (split_parts text line rest split) full)

module _ (initial : Option (List ℕ)) (old new : Stream) (same : new.left ≡ old.left) (torn : new.torn ≡ old.torn) (taken : new.taken ≡ old.taken) where
  pub begun : (first body : List ℕ) (template : Template) → IsUnread initial old → old.ready ≡ first ++ body → IsReadTo old.ready new.ready template [] new.next → IsStreamed initial new first template []
  begun first body template u begins r = record {
    given = u.given;
    took = rw same u.took;
    count = taken ∙ u.count;
    whole = old.ready;
    body = body;
    begins = begins;
    parts = rw torn u.parts;
    full = u.full;
    lacks = rw torn u.lacks;
    so_far = r;
  }

  pub one_more : (first : List ℕ) (template : Template) (entries : List Entry) (line : List ℕ) (e : Entry) → new.next ≡ old.next + 1 → IsSplit 10 old.ready line new.ready → EntryMeans line e → IsStreamed initial old first template entries
      → IsStreamed initial new first template (entries ++ e ∷ [])
  one_more first template entries line e next split means s = record {
    given = s.given;
    took = rw same s.took;
    count = taken ∙ s.count;
    whole = s.whole;
    body = s.body;
    begins = s.begins;
    parts = rw torn s.parts;
    full = s.full;
    lacks = rw torn s.lacks;
    so_far = rw next (read_more s.whole old.ready template entries old.next s.so_far line new.ready e split means);
  }
