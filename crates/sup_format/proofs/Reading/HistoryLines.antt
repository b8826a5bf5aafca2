-- Lines that are written word by word are read word by word.
use Rattle.std.proofs.Common.{◌≡◌, ℕ, ◌+◌, ◌<◌, ◌≤◌, ◌^◌, ◌==◌, Bool, true, false, List, [], ◌∷◌, ◌++◌, length, get_or, take, map, codes, refl, sym, ap, subst, ◌∙◌, append_assoc, append-nil, arith, inr}
use Rattle.std.specs.Prelude.{nat_le}
use Rattle.std.specs.List.{list_all, join_with_byte, flat_map}
use Rattle.std.specs.Fmt.{decimal}
use Rattle.std.proofs.lemmas.Bool.Decides.{nat_tests}
use Rattle.std.proofs.lemmas.Fmt.{decimal_is_IsNumeral}
use Rattle.std.proofs.lemmas.Str.Parse.{digit_at}
use Rattle.std.proofs.lemmas.Grind.{flat_map-append}
use Rattle.std.proofs.lemmas.List.{take_more, take_all, flat_map_more}
use Rattle.std.proofs.lemmas.List.Elements.{All-append, All-from_get_or, All-nil}
use Rattle.std.proofs.lemmas.List.Sums.{AllPass-from_list_all, list_all-from_AllPass}
use Rattle.sup_types.specs.Text.{IsText}
use Rattle.sup_types.specs.declared.reason.Reason.{Reason}
use Rattle.sup_types.specs.declared.reason.Reason.TheVariants as reason
use Rattle.sup_types.specs.declared.template.Template.{Template}
use Rattle.sup_types.specs.declared.template.Restart.{Restart}
use Rattle.sup_types.specs.declared.template.Restart.TheVariants as restart
use Rattle.sup_types.specs.declared.template.Kind.{Kind}
use Rattle.sup_types.specs.declared.template.Kind.TheVariants as kind
use Rattle.sup_types.specs.declared.template.AutoShutdown.{AutoShutdown}
use Rattle.sup_types.specs.declared.template.AutoShutdown.TheVariants as auto
use Rattle.sup_types.specs.declared.history.Answer.{Answer}
use Rattle.sup_types.specs.declared.history.Answer.TheVariants as answer
use Rattle.sup_types.specs.declared.history.Operation.{Operation}
use Rattle.sup_types.specs.declared.history.Operation.TheVariants as operation
use Rattle.sup_types.specs.declared.history.Entry.{Entry}
use Rattle.sup_format.specs.declared.spelled.Verb.{Verb}
use Rattle.sup_format.specs.declared.spelled.Verb.TheVariants as verb
use Rattle.sup_format.specs.Reading.Words.{words_of, Lacks}
use Rattle.sup_format.specs.Reading.Tokens.{restart_word, kind_word, mark_word, auto_word, reason_word, verb_word, operation_verb, argument_words, IsReason, IsOperation}
use Rattle.sup_format.specs.Writing.Replies.{line_of, spaced}
use Rattle.sup_format.specs.Writing.HistoryTexts.{header_line, entry_line, SpellsOneMore}
use Rattle.sup_format.specs.Reading.Texts.{lines_of, IsFull}
use Rattle.sup_format.specs.Reading.Headers.{IsTemplateOf, FitsParts}
use Rattle.sup_format.specs.Reading.History.{answer_words, entry_words, deed_words, IsAnswer, IsEntry, EntryMeans, AreEntries, first_words, template_parts, SpellsAs}
use Rattle.sup_format.proofs.Reading.Cuts.{words-split, words-one}
use Rattle.sup_format.specs.LineLaws.{lines_at, lines-append, full-append, full-both}
use Rattle.sup_format.specs.HistorySteps.{entries_push}

-- ---- words with neither a space nor a line feed

abbrev pub IsSolid : List ℕ → Type 0
IsSolid word = list_all (λ b. nat_le 33 b) word ≡ true

abbrev pub AreSolid : List (List ℕ) → Type 0
AreSolid [] = Unit {0}
AreSolid (word ∷ words) = IsSolid word × AreSolid words

not_low : (b c : ℕ) → c < 33 → nat_le 33 b ≡ true → (b == c) ≡ false
not_low b c low high = grind (arith, nat_tests)

high_is : (b : ℕ) → 33 ≤ b → nat_le 33 b ≡ true
high_is b high = grind (arith, nat_tests)

solid_lacks : (c : ℕ) (word : List ℕ) → c < 33 → IsSolid word → Lacks c word
solid_lacks c word low solid = λ k d below. not_low (get_or word k d) c low (AllPass-from_list_all (λ b. nat_le 33 b) word solid k d below)

solid_from : (word : List ℕ) → ((k : ℕ) → k < length word → 33 ≤ get_or word k 0) → IsSolid word
solid_from word high = list_all-from_AllPass (λ b. nat_le 33 b) word (All-from_get_or (λ b. nat_le 33 b ≡ true) word 0 (λ k below. high_is (get_or word k 0) (high k below)))

solid_number : (n : ℕ) → n < 2 ^ 64 → IsSolid (decimal n)
solid_number n fits = let numeral = decimal_is_IsNumeral n fits in solid_from (decimal n) (λ k below. let digit = digit_at (decimal n) k numeral.0.1 below in omega (arith, digit.0))

solid_text : (text : List ℕ) → IsText text → IsSolid text
solid_text text fits = solid_from text (λ k below. (fits.2 k 0 below).0)

solid_reason : (r : Reason) → IsReason r → IsSolid (reason_word r)
solid_reason reason.Normal fits = refl
solid_reason reason.Shutdown fits = refl
solid_reason (reason.ShutdownWith term) fits = solid_text term fits
solid_reason (reason.Other word) fits = solid_text word fits.0

solid_verb : (v : Verb) → IsSolid (verb_word v)
solid_verb verb.Start = refl
solid_verb verb.Exit = refl
solid_verb verb.Retry = refl
solid_verb verb.Terminate = refl
solid_verb verb.Stop = refl

solid_restart : (r : Restart) → IsSolid (restart_word r)
solid_restart restart.Permanent = refl
solid_restart restart.Transient = refl
solid_restart restart.Temporary = refl

solid_kind : (k : Kind) → IsSolid (kind_word k)
solid_kind kind.Worker = refl
solid_kind kind.Supervisor = refl

solid_mark : (b : Bool) → IsSolid (mark_word b)
solid_mark true = refl
solid_mark false = refl

solid_auto : (a : AutoShutdown) → IsSolid (auto_word a)
solid_auto auto.Never = refl
solid_auto auto.Any = refl
solid_auto auto.All = refl

solid_answer : (a : Answer) → IsAnswer a → AreSolid (answer_words a)
solid_answer answer.Running fits = (refl, tt)
solid_answer answer.Ignore fits = (refl, tt)
solid_answer (answer.Failed code) fits = (refl, (solid_number code (omega (arith, fits)), tt))

solid_arguments : (o : Operation) → IsOperation o → AreSolid (argument_words o)
solid_arguments (operation.Start argument) fits = (solid_text argument fits, tt)
solid_arguments (operation.Exit number r) fits = (solid_number number fits.0, (solid_reason r fits.1, tt))
solid_arguments (operation.Retry number) fits = (solid_number number fits, tt)
solid_arguments (operation.Terminate number) fits = (solid_number number fits, tt)
solid_arguments operation.Stop fits = tt

solid_both : (xs ys : List (List ℕ)) → AreSolid xs → AreSolid ys → AreSolid (xs ++ ys)
solid_both [] ys a b = b
solid_both (x ∷ xs) ys a b = (a.0, solid_both xs ys a.1 b)

solid_entry : (e : Entry) → IsEntry e → AreSolid (entry_words e)
solid_entry e fits = (
  solid_number e.handle fits.handle,
  (solid_number e.serial fits.serial, (solid_number e.moment fits.moment, (solid_verb (operation_verb e.operation), solid_both (argument_words e.operation) (answer_words e.answer) (solid_arguments e.operation fits.operation) (solid_answer e.answer fits.answer)))),
)

solid_first : (t : Template) → FitsParts (template_parts t) → AreSolid (first_words t)
solid_first t fits = (
  refl,
  (refl, (solid_restart t.restart, (solid_kind t.kind, (solid_number t.intensity fits.0, (solid_number t.period fits.1, (solid_number t.max fits.2, (solid_mark t.significant, (solid_auto t.auto_shutdown, tt)))))))),
)

-- ---- words that were joined

words-join : (w : List ℕ) (ws : List (List ℕ)) → AreSolid (w ∷ ws) → words_of (join_with_byte 32 (w ∷ ws)) ≡ w ∷ ws
words-join w [] solid = words-one w (solid_lacks 32 w (omega arith) solid.0)
words-join w (v ∷ vs) solid =
    let rest = join_with_byte 32 (v ∷ vs) in
    words-split (w ++ 32 ∷ rest) w rest (record { parts = refl; first = solid_lacks 32 w (omega arith) solid.0 }) ∙ ap (λ (l : List (List ℕ)). w ∷ l) (words-join v vs solid.1)

lacks-cons : (c b : ℕ) (bs : List ℕ) → (b == c) ≡ false → Lacks c bs → Lacks c (b ∷ bs)
lacks-cons c b bs here there = All-append (λ x. (x == c) ≡ false) (b ∷ []) bs (All-from_get_or (λ x. (x == c) ≡ false) (b ∷ []) 0 (λ k below. let first : k ≡ 0 = omega arith in rw first here)) there

lacks-join : (ws : List (List ℕ)) → AreSolid ws → Lacks 10 (join_with_byte 32 ws)
lacks-join [] solid = All-nil (λ x. (x == 10) ≡ false)
lacks-join (w ∷ []) solid = solid_lacks 10 w (omega arith) solid.0
lacks-join (w ∷ v ∷ vs) solid =
    All-append (λ x. (x == 10) ≡ false) w (32 ∷ join_with_byte 32 (v ∷ vs)) (solid_lacks 10 w (omega arith) solid.0) (lacks-cons 10 32 (join_with_byte 32 (v ∷ vs)) refl (lacks-join (v ∷ vs) solid.1))

lines-line : (ws : List (List ℕ)) (rest : List ℕ) → AreSolid ws → lines_of (line_of ws ++ rest) ≡ join_with_byte 32 ws ∷ lines_of rest
lines-line ws rest solid = ap lines_of (append_assoc (join_with_byte 32 ws) (10 ∷ []) rest) ∙ lines_at (join_with_byte 32 ws) rest (lacks-join ws solid)

full-line : (ws : List (List ℕ)) → IsFull (line_of ws)
full-line ws = full-append (join_with_byte 32 ws) (10 ∷ []) (omega arith) (λ _. refl)

-- ---- a line in parts

pub spaced-line : (xs : List (List ℕ)) (y : List ℕ) (ys : List (List ℕ)) → line_of (xs ++ y ∷ ys) ≡ spaced xs ++ line_of (y ∷ ys)
spaced-line [] y ys = refl
spaced-line (x ∷ xs) y ys = joined x xs y ys ∙ ap (λ (l : List ℕ). (x ++ 32 ∷ []) ++ l) (spaced-line xs y ys) ∙ sym (append_assoc (x ++ 32 ∷ []) (spaced xs) (line_of (y ∷ ys))) where
  cons_some : (xs : List (List ℕ)) (y : List ℕ) (ys : List (List ℕ)) (x : List ℕ) → join_with_byte 32 (x ∷ (xs ++ y ∷ ys)) ≡ x ++ 32 ∷ join_with_byte 32 (xs ++ y ∷ ys)
  cons_some [] y ys x = refl
  cons_some (z ∷ zs) y ys x = refl

  joined : (x : List ℕ) (xs : List (List ℕ)) (y : List ℕ) (ys : List (List ℕ)) → line_of (x ∷ (xs ++ y ∷ ys)) ≡ (x ++ 32 ∷ []) ++ line_of (xs ++ y ∷ ys)
  joined x xs y ys =
      ap (λ (l : List ℕ). l ++ 10 ∷ []) (cons_some xs y ys x) ∙ append_assoc x (32 ∷ join_with_byte 32 (xs ++ y ∷ ys)) (10 ∷ []) ∙ sym (append_assoc x (32 ∷ []) (line_of (xs ++ y ∷ ys)))

spaced-answer : (xs : List (List ℕ)) (a : Answer) → line_of (xs ++ answer_words a) ≡ spaced xs ++ line_of (answer_words a)
spaced-answer xs answer.Running = spaced-line xs (codes "running") []
spaced-answer xs answer.Ignore = spaced-line xs (codes "ignore") []
spaced-answer xs (answer.Failed code) = spaced-line xs (codes "failed") (decimal code ∷ [])

-- an entry's numbers, its operation and its answer were written
pub entry_appended : (old numbers deed new : List ℕ) (e : Entry) → numbers ≡ old ++ spaced (decimal e.handle ∷ decimal e.serial ∷ decimal e.moment ∷ []) → deed ≡ numbers ++ spaced (verb_word (operation_verb e.operation) ∷ argument_words e.operation)
    → new ≡ deed ++ line_of (answer_words e.answer) → new ≡ old ++ line_of (entry_words e)
entry_appended old numbers deed new e p q r =
    let front = decimal e.handle ∷ decimal e.serial ∷ decimal e.moment ∷ [] in
    let operation = verb_word (operation_verb e.operation) ∷ argument_words e.operation in
    let last = line_of (answer_words e.answer) in
    let both : spaced (front ++ operation) ≡ spaced front ++ spaced operation = flat_map-append (λ (word : List ℕ). word ++ 32 ∷ []) front operation in
    r ∙ ap (λ (l : List ℕ). l ++ last) (q ∙ ap (λ (l : List ℕ). l ++ spaced operation) p ∙ append_assoc old (spaced front) (spaced operation) ∙ ap (λ (l : List ℕ). old ++ l) (sym both))
    ∙ append_assoc old (spaced (front ++ operation)) last ∙ ap (λ (l : List ℕ). old ++ l) (sym (spaced-answer (front ++ operation) e.answer))

-- ---- entries

abbrev pub AllEntries : List Entry → Type 0
AllEntries [] = Unit {0}
AllEntries (e ∷ es) = IsEntry e × AllEntries es

abbrev body_of : List Entry → List (List ℕ)
body_of es = map (λ e. join_with_byte 32 (entry_words e)) es

lines-entries : (es : List Entry) → AllEntries es → lines_of (flat_map entry_line es) ≡ body_of es
lines-entries [] all = refl
lines-entries (e ∷ es) all = lines-line (entry_words e) (flat_map entry_line es) (solid_entry e all.0) ∙ ap (λ (l : List (List ℕ)). join_with_byte 32 (entry_words e) ∷ l) (lines-entries es all.1)

full-entries : (es : List Entry) → IsFull (flat_map entry_line es)
full-entries [] = λ some. absurd (omega arith)
full-entries (e ∷ es) = full-both (entry_line e) (flat_map entry_line es) (full-line (entry_words e)) (full-entries es)

entries_mean : (es : List Entry) → AllEntries es → AreEntries (body_of es) es
entries_mean [] all = tt
entries_mean (e ∷ es) all = (record { fits = all.0; words = words-join (decimal e.handle) (decimal e.serial ∷ decimal e.moment ∷ deed_words e.operation e.answer) (solid_entry e all.0) }, entries_mean es all.1)

taken_more : (es : List Entry) (i : ℕ) (e : Entry) → i < length es → e ≡ get_or es i e → take (i + 1) es ≡ take i es ++ e ∷ []
taken_more es i e inside item = take_more es i e inside ∙ ap (λ (x : Entry). take i es ++ x ∷ []) (sym item)

all_push : (es : List Entry) (e : Entry) → AllEntries es → IsEntry e → AllEntries (es ++ e ∷ [])
all_push [] e all is = (is, tt)
all_push (d ∷ ds) e all is = (all.0, all_push ds e all.1 is)

-- a template with 2^62 entries
widest : (t : Template) → (w : Template) × IsTemplateOf w (template_parts t)
widest t = (
  record t { entries = 2 ^ 62; in_range = (t.in_range.0, t.in_range.1, t.in_range.2, t.in_range.3, t.in_range.4, omega arith, omega arith) },
  record { restart = refl; kind = refl; intensity = refl; period = refl; max = refl; entries = refl; significant = refl; auto_shutdown = refl },
)

fits_parts : (t : Template) → FitsParts (template_parts t)
fits_parts t = let r = t.in_range in (omega (arith, r.0), omega (arith, r.2), omega (arith, r.4))

written_spells : (t : Template) (es : List Entry) (bytes : List ℕ) → AllEntries es → bytes ≡ line_of (first_words t) ++ flat_map entry_line es → SpellsAs bytes t es
written_spells t es bytes all whole =
    let w = widest t in
    let line = join_with_byte 32 (first_words t) in
    let words : words_of line ≡ first_words t = words-join (codes "history") (codes "2" ∷ _) (solid_first t (fits_parts t)) in
    record {
      written = w.0;
      written_is = w.1;
      spelled = record {
        first = line;
        body = body_of es;
        lines = ap lines_of whole ∙ lines-line (first_words t) (flat_map entry_line es) (solid_first t (fits_parts t)) ∙ ap (λ (l : List (List ℕ)). line ∷ l) (lines-entries es all);
        ended = subst IsFull (sym whole) (full-both (line_of (first_words t)) (flat_map entry_line es) (full-line (first_words t)) (full-entries es));
        first_is = record {
          parts = template_parts t;
          shape = record { fits = fits_parts t; words = inr words };
          template_is = w.1;
        };
        entries_are = entries_mean es all;
      };
      version_2 = words;
    }

-- one entry more was written
pub written_more : (old mid new : List ℕ) (es : List Entry) (i : ℕ) (e : Entry) → i < length es → e ≡ get_or es i e → mid ≡ old ++ flat_map entry_line (take i es) → new ≡ mid ++ entry_line e → new ≡ old ++ flat_map entry_line (take (i + 1) es)
written_more old mid new es i e inside item so_far last =
    last ∙ ap (λ (l : List ℕ). l ++ entry_line e) so_far ∙ flat_map_more entry_line old (take i es) e ∙ ap (λ (l : List Entry). old ++ flat_map entry_line l) (sym (taken_more es i e inside item))

pub all_more : (es : List Entry) (i : ℕ) (e : Entry) → i < length es → e ≡ get_or es i e → AllEntries (take i es) → IsEntry e → AllEntries (take (i + 1) es)
all_more es i e inside item all is = subst AllEntries (sym (taken_more es i e inside item)) (all_push (take i es) e all is)

-- all were
pub written_all : (t : Template) (es : List Entry) (i : ℕ) (bytes : List ℕ) → length es ≤ i → AllEntries (take i es) → bytes ≡ line_of (first_words t) ++ flat_map entry_line (take i es) → SpellsAs bytes t es
written_all t es i bytes end all whole =
    let same : take i es ≡ es = take_all i es end in
    written_spells t es bytes (subst AllEntries same all) (whole ∙ ap (λ (l : List Entry). line_of (first_words t) ++ flat_map entry_line l) same)

-- ---- line after line

pub header_spells : (t : Template) → SpellsAs (header_line t) t []
header_spells t = written_spells t [] (header_line t) tt (sym (append-nil (header_line t)))

entry_means : (e : Entry) → IsEntry e → EntryMeans (join_with_byte 32 (entry_words e)) e
entry_means e fits = record { fits = fits; words = words-join (decimal e.handle) (decimal e.serial ∷ decimal e.moment ∷ deed_words e.operation e.answer) (solid_entry e fits) }

one_line : (e : Entry) → IsEntry e → lines_of (entry_line e) ≡ join_with_byte 32 (entry_words e) ∷ []
one_line e fits = ap lines_of (sym (append-nil (entry_line e))) ∙ lines-line (entry_words e) [] (solid_entry e fits)

pub spells_one_more : (e : Entry) → IsEntry e → SpellsOneMore (entry_line e) e
spells_one_more e fits = λ text template entries s.
    let line = join_with_byte 32 (entry_words e) in
    record {
      written = s.written;
      written_is = s.written_is;
      spelled = record {
        first = s.spelled.first;
        body = s.spelled.body ++ line ∷ [];
        lines = lines-append text (entry_line e) s.spelled.ended ∙ ap (λ (l : List (List ℕ)). l ++ lines_of (entry_line e)) s.spelled.lines ∙ ap (λ (l : List (List ℕ)). s.spelled.first ∷ (s.spelled.body ++ l)) (one_line e fits);
        ended = full-both text (entry_line e) s.spelled.ended (full-line (entry_words e));
        first_is = s.spelled.first_is;
        entries_are = entries_push s.spelled.body entries line e s.spelled.entries_are (entry_means e fits);
      };
      version_2 = s.version_2;
    }
