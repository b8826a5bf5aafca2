-- A text that begins with the first line of a template.
use Rattle.std.proofs.Common.{◌≡◌, ℕ, Bool, true, false, nat_eq, List, [], ◌∷◌, ◌++◌, length, drop, sym, ap, subst, ◌∙◌}
use Rattle.std.specs.Io.{StartsWith}
use Rattle.std.specs.List.{starts_with}
use Rattle.std.proofs.KnownBytes.{starts_with_rest}
use Rattle.std.proofs.Transfers.{starts_with_of_append}
use Rattle.std.proofs.lemmas.Bool.{false≢true}
use Rattle.std.proofs.lemmas.Bool.Decides.{Decides-eqb}
use Rattle.std.proofs.lemmas.Slice.Eq.{starts_is}
use Rattle.sup_types.specs.declared.template.Template.{Template}
use Rattle.sup_types.specs.declared.history.Entry.{Entry}
use Rattle.sup_format.specs.Reading.Headers.{IsFirst}
use Rattle.sup_format.specs.Reading.History.{Spells, SpellsAs, AreFirstWords}
use Rattle.sup_format.specs.Reading.Texts.{lines_of, IsEndedPart}
use Rattle.sup_format.specs.Reading.Words.{words_of}
use Rattle.sup_format.specs.LineLaws.{lines-append}
use Rattle.sup_journal.proofs.Lines.{within}

first_same : (x y : List ℕ) (xs ys : List (List ℕ)) → x ∷ xs ≡ y ∷ ys → x ≡ y
first_same x y xs ys e = cc

pub goes_on : (text first whole : List ℕ) (template read : Template) (entries : List Entry) → StartsWith text first → SpellsAs first template [] → IsEndedPart text whole → Spells whole read entries
    → SpellsAs whole template entries
goes_on text first whole template read entries starts s ended spelled =
    let parts = starts_with_rest text first starts in
    let w = within first (drop (length first) text) whole ended.rest (sym parts ∙ ended.parts) s.spelled.ended ended.unended in
    let lines : lines_of whole ≡ s.spelled.first ∷ (s.spelled.body ++ lines_of w.0) = ap lines_of w.1 ∙ lines-append first w.0 s.spelled.ended ∙ ap (λ (l : List (List ℕ)). l ++ lines_of w.0) s.spelled.lines in
    let firsts = first_same spelled.first s.spelled.first spelled.body (s.spelled.body ++ lines_of w.0) (sym spelled.lines ∙ lines) in
    record {
      written = s.written;
      written_is = s.written_is;
      spelled = record {
        first = spelled.first;
        body = spelled.body;
        lines = spelled.lines;
        ended = spelled.ended;
        first_is = subst (λ (l : List ℕ). IsFirst AreFirstWords l s.written) (sym firsts) s.spelled.first_is;
        entries_are = spelled.entries_are;
      };
      version_2 = ap words_of firsts ∙ s.version_2;
    }

-- `starts_with` of bytes says whether one begins with the other
pub begins_with : (text first : List ℕ) (r : Bool) → r ≡ starts_with nat_eq text first → r ≡ true → StartsWith text first
begins_with text first r is begins = starts_with_of_append text first _ ((starts_is Decides-eqb text first r is).0 begins)

pub begins_otherwise : (text first : List ℕ) (r : Bool) → r ≡ starts_with nat_eq text first → r ≡ false → ¬ StartsWith text first
begins_otherwise text first r is lacks starts =
    let begins = (starts_is Decides-eqb text first r is).1 _ (starts_with_rest text first starts) in
    false≢true (sym lacks ∙ begins)
