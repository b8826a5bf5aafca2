-- The first whole lines of a history text that continues.
use Rattle.std.proofs.Common.{◌≡◌, ℕ, ◌<◌, List, [], ◌∷◌, ◌++◌, length, take, sym, ap, subst, ◌∙◌, arith}
use Rattle.std.proofs.lemmas.List.{length-append}
use Rattle.sup_types.specs.declared.template.Template.{Template}
use Rattle.sup_types.specs.declared.history.Entry.{Entry}
use Rattle.sup_format.specs.Reading.Texts.{lines_of, IsFull}
use Rattle.sup_format.specs.Reading.History.{AreEntries, SpellsAs}
use Rattle.sup_format.specs.Writing.HistoryTexts.{SpellsFirstsOf}
use Rattle.sup_format.specs.LineLaws.{lines-append, full-both, some_lines}
use Rattle.sup_format.specs.HistoryLaws.{entries_length}
use Rattle.sup_format.proofs.Reading.Commands.{rest_same}

-- the lines after those of the first entries are those of the others
others : (ls ms : List (List ℕ)) (es fs : List Entry) → AreEntries ls es → AreEntries (ls ++ ms) (es ++ fs) → AreEntries ms fs
others [] ms [] fs a b = b
others [] ms (e ∷ es) fs a b = absurd a
others (l ∷ ls) ms [] fs a b = absurd a
others (l ∷ ls) ms (e ∷ es) fs a b = others ls ms es fs a.1 b.1

-- the first lines are those of as many first entries
firsts : (ls ms : List (List ℕ)) (es : List Entry) → AreEntries (ls ++ ms) es → AreEntries ls (take (length ls) es)
firsts [] ms es a = tt
firsts (l ∷ ls) ms [] a = absurd a
firsts (l ∷ ls) ms (e ∷ es) a = (a.0, firsts ls ms es a.1)

both : (ls ms : List (List ℕ)) (es fs : List Entry) → AreEntries ls es → AreEntries ms fs → AreEntries (ls ++ ms) (es ++ fs)
both [] ms [] fs a b = b
both [] ms (e ∷ es) fs a b = absurd a
both (l ∷ ls) ms [] fs a b = absurd a
both (l ∷ ls) ms (e ∷ es) fs a b = (a.0, both ls ms es fs a.1 b)

some_of : (bytes : List ℕ) → 0 < length bytes → 0 < length (lines_of bytes)
some_of [] some = absurd (omega arith)
some_of (b ∷ bs) some = some_lines b bs

pub firsts_spell : (text front rest : List ℕ) (template : Template) (entries more : List Entry) → SpellsAs text template entries
    → SpellsAs (text ++ (front ++ rest)) template (entries ++ more) → IsFull front → SpellsFirstsOf (text ++ front) rest template entries more
firsts_spell text front rest template entries more s t full =
    let first = s.spelled.first in
    let body = s.spelled.body in
    let ls = lines_of front in
    let ms = lines_of rest in
    let goes_on : lines_of (text ++ (front ++ rest)) ≡ first ∷ (body ++ (ls ++ ms)) =
    lines-append text (front ++ rest) s.spelled.ended ∙ ap (λ (l : List (List ℕ)). l ++ lines_of (front ++ rest)) s.spelled.lines ∙ ap (λ (l : List (List ℕ)). first ∷ (body ++ l)) (lines-append front rest full) in
    let bodies : t.spelled.body ≡ body ++ (ls ++ ms) = rest_same _ _ _ _ (sym t.spelled.lines ∙ goes_on) in
    let are_more : AreEntries (ls ++ ms) more = others body (ls ++ ms) entries more s.spelled.entries_are (subst (λ l. AreEntries l (entries ++ more)) bodies t.spelled.entries_are) in
    let len = entries_length (ls ++ ms) more are_more in
    let sum = length-append ls ms in
    record {
      count = length ls;
      inside = omega (arith, len, sum);
      some_left = λ some. let left = some_of rest some in omega (arith, len, sum, left);
      spelled = record {
        written = s.written;
        written_is = s.written_is;
        spelled = record {
          first = first;
          body = body ++ ls;
          lines = lines-append text front s.spelled.ended ∙ ap (λ (l : List (List ℕ)). l ++ ls) s.spelled.lines;
          ended = full-both text front s.spelled.ended full;
          first_is = s.spelled.first_is;
          entries_are = both body ls entries (take (length ls) more) s.spelled.entries_are (firsts ls ms more are_more);
        };
        version_2 = s.version_2;
      };
    }
