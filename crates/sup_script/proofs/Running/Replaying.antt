-- Answering the entries of a history text, one after the other, as they are read.
use Rattle.std.proofs.Common.{◌≡◌, ℕ, ◌+◌, ◌<◌, List, [], ◌∷◌, ◌++◌, length, Option, Result, Ok, Err, refl, sym, ap, subst, ◌∙◌, append_assoc, append-nil, arith, inl, inr}
use Rattle.std.specs.Io.KnownBytes.{Appends}
use Rattle.std.proofs.KnownBytes.{Appends-nil}
use Rattle.sup_types.specs.declared.template.Template.{Template}
use Rattle.sup_types.specs.declared.history.Entry.{Entry}
use Rattle.sup_core.specs.State.{State}
use Rattle.sup_core.specs.Account.{IsAfter, reply_after}
use Rattle.sup_format.specs.declared.fault.Fault.{Fault}
use Rattle.sup_format.specs.declared.fault.Fault.TheVariants as fault
use Rattle.sup_format.specs.declared.fault.ScriptFault.{ScriptFault}
use Rattle.sup_format.specs.Causes.{IsTextFault}
use Rattle.sup_format.specs.Reading.Words.{IsSplit}
use Rattle.sup_format.specs.Reading.Texts.{lines_of}
use Rattle.sup_format.specs.Reading.History.{EntryMeans, MeansNoEntry, Spells}
use Rattle.sup_format.specs.Reading.HistoryReading.{IsReadTo}
use Rattle.sup_format.specs.Writing.Replies.{reply_text}
use Rattle.sup_format.specs.Writing.Waiting.{IsTorn, IsFlushed}
use Rattle.sup_format.specs.HistorySteps.{read_more, read_all, bad_line, lines_left}
use Rattle.sup_format.specs.LineLaws.{lines-split}
use Rattle.sup_script.specs.Running.Replays.{entries_text, Replays, ReplyStops, TextGives}
use Rattle.sup_script.specs.Running.Stops.{IsAtLine, IsCutShort}
use Rattle.sup_script.specs.Running.Queues.{IsQueue}
use Rattle.sup_script.proofs.Running.Queues.{queue_none, queue_more, torn_cut}

pub text_push : (template : Template) (h xs : List Entry) (e : Entry) → entries_text template h (xs ++ e ∷ []) ≡ entries_text template h xs ++ reply_text (reply_after template (h ++ xs) e)
text_push template h [] e = append-nil (reply_text (reply_after template h e)) ∙ ap (λ (l : List Entry). reply_text (reply_after template l e)) (sym (append-nil h))
text_push template h (x ∷ xs) e =
    ap (λ (l : List ℕ). reply_text (reply_after template h x) ++ l) (text_push template (h ++ x ∷ []) xs e)
    ∙ sym (append_assoc (reply_text (reply_after template h x)) (entries_text template (h ++ x ∷ []) xs) (reply_text (reply_after template ((h ++ x ∷ []) ++ xs) e)))
    ∙ ap (λ (l : List Entry). entries_text template h (x ∷ xs) ++ reply_text (reply_after template l e)) (append_assoc h (x ∷ []) xs)

-- the text of the replies to what was read
replayed : (text rest : List ℕ) (template : Template) (entries : List Entry) (next : ℕ) (r : IsReadTo text rest template entries next) (replies : List ℕ) → replies ≡ entries_text template [] entries → Replays (r.first ∷ r.body) replies
replayed text rest template entries next r replies is = record { template = template; entries = entries; first_is = r.first_is; entries_are = r.entries_are; replies = is }

-- the entries so far were read and answered, and their replies wait
pub record IsReplayedTo (text rest : List ℕ) (template : Template) (waiting ends : List ℕ) (sup : State) (next : ℕ) : Type 0 where
  pub entries : List Entry
  pub read : IsReadTo text rest template entries next
  pub text_is : waiting ≡ entries_text template [] entries
  pub after : IsAfter sup entries
  pub template_is : sup.template ≡ template
  pub queue : IsQueue Replays (read.first ∷ read.body) [] waiting ends

pub replayed_none : (text rest : List ℕ) (waiting ends : List ℕ) (sup : State) → waiting ≡ [] → ends ≡ [] → IsAfter sup [] → IsReadTo text rest sup.template [] 2 → IsReplayedTo text rest sup.template waiting ends sup 2
replayed_none text rest waiting ends sup w e after read = record {
  entries = [];
  read = read;
  text_is = w;
  after = after;
  template_is = refl;
  queue = rw (w, e) (queue_none Replays (read.first ∷ read.body) [] (replayed text rest sup.template [] 2 read [] refl));
}

pub no_memory : {X : Type 0} (Texts : List X → List ℕ → Type 0) (lines : List X) (number : ℕ) (written : List ℕ) (f : Fault) → f ≡ fault.OutOfMemory → IsAtLine Texts lines number written → ReplyStops Texts lines number written f
no_memory Texts lines number written f e at = rw e at

pub refused : {X : Type 0} (Texts : List X → List ℕ → Type 0) (lines : List X) (number : ℕ) (written : List ℕ) (f : Fault) → f ≡ fault.WriteFault → IsCutShort Texts lines number written → ReplyStops Texts lines number written f
refused Texts lines number written f e cut = rw e cut

module _ (text rest : List ℕ) (template : Template) (waiting ends : List ℕ) (sup : State) (next : ℕ) (r : IsReplayedTo text rest template waiting ends sup next) where
  -- one entry more
  pub replayed_more : (line after : List ℕ) (e : Entry) → IsSplit 10 rest line after → EntryMeans line e → (sup' : State) (waiting' ends' : List ℕ) → ((history : List Entry) → IsAfter sup history → waiting' ≡ waiting ++ reply_text (reply_after sup.template history e))
      → ((history : List Entry) → IsAfter sup history → IsAfter sup' (history ++ e ∷ [])) → sup'.template ≡ sup.template → ends' ≡ ends ++ length waiting' ∷ [] → IsReplayedTo text after template waiting' ends' sup' (next + 1)
  unfolding read_more
  replayed_more line after e split means sup' waiting' ends' replies then same marked =
      let reply = reply_text (reply_after template r.entries e) in
      let grown : waiting' ≡ waiting ++ reply = replies r.entries r.after ∙ ap (λ (t : Template). waiting ++ reply_text (reply_after t r.entries e)) r.template_is in
      let read = read_more text rest template r.entries next r.read line after e split means in
      let text_is : waiting' ≡ entries_text template [] (r.entries ++ e ∷ []) = grown ∙ ap (λ (l : List ℕ). l ++ reply) r.text_is ∙ sym (text_push template [] r.entries e) in
      let whole : Replays ((r.read.first ∷ r.read.body) ++ line ∷ []) waiting' = replayed text after template (r.entries ++ e ∷ []) (next + 1) read waiting' text_is in
      record {
        entries = r.entries ++ e ∷ [];
        read = read;
        text_is = text_is;
        after = then r.entries r.after;
        template_is = same ∙ r.template_is;
        queue = subst (IsQueue Replays ((r.read.first ∷ r.read.body) ++ line ∷ []) [] waiting') (sym marked) (queue_more Replays (r.read.first ∷ r.read.body) line [] waiting reply waiting' ends r.queue grown whole);
      }

  -- the next line spells no entry
  pub replayed_bad : (old : Option (List ℕ)) → 0 < length rest → ((line more : List ℕ) → IsSplit 10 rest line more → MeansNoEntry line) → TextGives text old old (Err (record { fault = fault.BadLine; line = next }))
  replayed_bad old some none = inl (bad_line text rest template r.entries next r.read some none, tt, Appends-nil old)

  -- the writer refused, and the text has no fault
  pub replayed_torn : (old new : Option (List ℕ)) (all : List Entry) (e : ScriptFault) → Spells text template all → IsTorn waiting ends old new next e → TextGives text old new (Err e)
  replayed_torn old new all e spelled t =
      let cut = torn_cut [] Replays (r.read.first ∷ r.read.body) (lines_of rest) [] waiting ends next old new e r.queue (omega (arith, r.read.number_is)) t in
      let lines = lines_left text rest template r.entries next r.read in
      inr (template, all, cut.0, spelled, cut.1, refused Replays (lines_of text) e.line cut.0 e.fault t.fault_is (subst (λ l. IsCutShort Replays l e.line cut.0) (sym lines) cut.2))

  -- there was no memory for the next reply, all before is written, and the text has no fault
  pub replayed_stops : (old new : Option (List ℕ)) (all : List Entry) (line after : List ℕ) (e : ScriptFault) → IsSplit 10 rest line after → Spells text template all → e.fault ≡ fault.OutOfMemory → e.line ≡ next → Appends old new waiting
      → TextGives text old new (Err e)
  replayed_stops old new all line after e split spelled fault_is line_is wrote =
      let lines = lines_left text rest template r.entries next r.read in
      let at : IsAtLine Replays (lines_of text) e.line waiting = record {
        front = r.read.first ∷ r.read.body;
        line = line;
        rest = lines_of after;
        parts = lines ∙ ap (λ (l : List (List ℕ)). (r.read.first ∷ r.read.body) ++ l) (lines-split rest line after split);
        number_is = line_is ∙ omega (arith, r.read.number_is);
        answered = r.queue.whole;
      } in
      inr (template, all, waiting, spelled, wrote, no_memory Replays (lines_of text) e.line waiting e.fault fault_is at)

  -- all entries were answered, and the writer takes what waits or refuses
  pub replayed_ends : (old new : Option (List ℕ)) (waiting' ends' : List ℕ) (result : Result (Unit {0}) ScriptFault) → length rest ≡ 0 → IsFlushed waiting ends waiting' ends' old new next result → TextGives text old new result
  replayed_ends old new waiting' ends' (Ok u) none f = (template, r.entries, read_all text rest template r.entries next r.read none, subst (Appends old new) r.text_is f.2)
  replayed_ends old new waiting' ends' (Err e) none t = replayed_torn old new r.entries e (read_all text rest template r.entries next r.read none) t

pub bad_line_kind : (f : Fault) → f ≡ fault.BadLine → IsTextFault f
bad_line_kind f is = rw is tt

-- ---- no room for the supervisor

pub no_supervisor : (text rest : List ℕ) (template : Template) (all : List Entry) (old : Option (List ℕ)) → IsReadTo text rest template [] 2 → Spells text template all → TextGives text old old (Err (record { fault = fault.OutOfMemory; line = 1 }))
no_supervisor text rest template all old r spelled =
    let at : IsAtLine Replays (lines_of text) 1 [] = record { front = []; line = spelled.first; rest = spelled.body; parts = spelled.lines; number_is = refl; answered = refl } in
    inr (template, all, [], spelled, Appends-nil old, at)
