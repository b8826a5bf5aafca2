-- Answering the entries of a journal while it is read.
use Rattle.std.proofs.Common.{◌≡◌, ◌⊎◌, ℕ, ◌+◌, ◌-◌, ◌<◌, Bool, true, List, [], ◌∷◌, ◌++◌, length, get_or, take, drop, Option, None, Some, Result, Ok, Err, refl, sym, ap, subst, ◌∙◌, append_assoc, append-nil, arith, inl, inr}
use Rattle.std.specs.Prelude.{IfErr}
use Rattle.std.specs.Io.KnownBytes.{Appends, IsAtEnd, Keeps}
use Rattle.std.proofs.KnownBytes.{Appends-nil, Appends-trans, Appends-kept}
use Rattle.std.proofs.Math.ListN.{get_or-eq_default}
use Rattle.std.proofs.lemmas.List.{take-append-drop, length-drop}
use Rattle.sup_types.specs.declared.template.Template.{Template}
use Rattle.sup_types.specs.declared.history.Entry.{Entry}
use Rattle.sup_core.specs.State.{State}
use Rattle.sup_core.specs.Account.{IsAfter, reply_after}
use Rattle.sup_core.specs.Queries.{count}
use Rattle.sup_format.specs.declared.fault.Fault.{Fault}
use Rattle.sup_format.specs.declared.fault.Fault.TheVariants as fault
use Rattle.sup_format.specs.declared.fault.ScriptFault.{ScriptFault}
use Rattle.sup_format.specs.Causes.{HasLineCause}
use Rattle.sup_format.specs.Reading.History.{AreEntries}
use Rattle.sup_format.specs.Reading.HistoryReading.{HistoryStops}
use Rattle.sup_format.specs.Reading.Streams.{HasStreamCause, IsStreamed, IsUnread, Stream}
use Rattle.sup_format.specs.StreamLaws.{streamed_ended, streamed_spelled, unread_ended}
use Rattle.sup_format.specs.Writing.Replies.{reply_text}
use Rattle.sup_format.specs.Writing.Waiting.{IsTorn, IsFlushed}
use Rattle.sup_script.specs.Running.Journals.{AreAllAnswered, AreTold, EndsAnswering, EndsTelling, IsJournal, IsStop, IsStoppedJournal, JournalStops, last_text}
use Rattle.sup_script.specs.Running.Queues.{IsQueue}
use Rattle.sup_script.specs.Running.Replays.{entries_text}
use Rattle.sup_script.specs.Running.Stops.{IsAtLine, IsCutShort}
use Rattle.sup_script.proofs.Running.Queues.{queue_none, queue_more, torn_cut}
use Rattle.sup_script.proofs.Running.Replaying.{no_memory, refused, text_push}

-- ---- causes

-- neither a line nor the reading has a fault of writing
no_write : (bytes : List ℕ) (number : ℕ) (failed : Bool) (f : Fault) → HistoryStops bytes number f ⊎ HasStreamCause failed f → f ≡ fault.WriteFault → ⊥
no_write bytes number failed f why e = elim (subst (λ (g : Fault). HistoryStops bytes number g ⊎ HasStreamCause failed g) e why) [ inl h ↦ h | inr h ↦ h ]

pub write_cause : (refused : Bool) (f : Fault) → HasLineCause refused f → f ≡ fault.WriteFault → refused ≡ true
write_cause refused f h e = subst (HasLineCause refused) e h

-- ---- a journal of which no line was given

pub unread_stops : (initial : Option (List ℕ)) (s : Stream) (contents : Option (List ℕ)) (refused : Bool) (e : ScriptFault) → IsUnread initial s → e.line ≡ 1
    → HistoryStops s.ready e.line e.fault ⊎ HasStreamCause s.has_failed e.fault → IsStoppedJournal initial s contents contents refused e
unread_stops initial s contents refused e u line why = record {
  given = u.given;
  took = u.took;
  whole = s.ready;
  torn = unread_ended initial s u;
  written = [];
  wrote = Appends-nil contents;
  stops = inl (why, inl (line, refl));
  cause = λ w. absurd (no_write s.ready e.line s.has_failed e.fault why w);
}

-- no line is ended
pub no_line : HistoryStops [] 1 fault.BadLine
no_line = (record { front = []; rest = []; parts = refl; full = λ some. absurd (omega arith); right = tt; number_is = refl }, λ line more split. absurd (ended line more split.parts))
  where
    ended : (line more : List ℕ) → [] ≡ line ++ 10 ∷ more → ⊥
    ended [] more e = cc
    ended (x ∷ xs) more e = cc

-- there is no room for the supervisor
pub begun_stops : (initial : Option (List ℕ)) (s : Stream) (template : Template) (contents : Option (List ℕ)) (refused : Bool) (e : ScriptFault) → IsStreamed initial s [] template [] → e.line ≡ 1 → e.fault ≡ fault.OutOfMemory
    → IsStoppedJournal initial s contents contents refused e
begun_stops initial s template contents refused e it line memory =
    let why : HistoryStops it.whole e.line e.fault ⊎ HasStreamCause s.has_failed e.fault = inr (rw memory tt) in
    record {
      given = it.given;
      took = it.took;
      whole = it.whole;
      torn = streamed_ended initial s [] template [] it;
      written = [];
      wrote = Appends-nil contents;
      stops = inl (why, inl (line, refl));
      cause = λ w. absurd (no_write it.whole e.line s.has_failed e.fault why w);
    }

-- ---- one entry after the other

entries_length : (lines : List (List ℕ)) (es : List Entry) → AreEntries lines es → length lines ≡ length es
entries_length [] [] are = refl
entries_length [] (e ∷ es) are = absurd are
entries_length (l ∷ ls) [] are = absurd are
entries_length (l ∷ ls) (e ∷ es) are = omega (arith, entries_length ls es are.1)

-- the first line has no entry, and each other one has one
next_is : (initial : Option (List ℕ)) (s : Stream) (template : Template) (entries : List Entry) → IsStreamed initial s [] template entries → s.next ≡ length entries + 2
next_is initial s template entries it = omega (arith, it.so_far.number_is, entries_length it.so_far.body entries it.so_far.entries_are)

-- the entries so far were answered, and some of the replies wait
pub record IsAnswering (initial : Option (List ℕ)) (s : Stream) (template : Template) (contents held : Option (List ℕ)) (waiting ends : List ℕ) (sup : State) : Type 0 where
  pub entries : List Entry
  pub read : IsStreamed initial s [] template entries
  pub written : List ℕ
  pub wrote : Appends contents held written
  pub after : IsAfter sup entries
  pub template_is : sup.template ≡ template
  pub queue : IsQueue (AreTold template) entries written waiting ends

-- what waits was written, or it waits
pub answering_passed : (initial : Option (List ℕ)) (s : Stream) (template : Template) (contents mid new : Option (List ℕ)) (waiting ends waiting' ends' : List ℕ) (sup : State) → IsAnswering initial s template contents mid waiting ends sup
    → ((waiting' ≡ waiting) × (ends' ≡ ends) × Keeps mid new) ⊎ ((waiting' ≡ []) × (ends' ≡ []) × Appends mid new waiting) → IsAnswering initial s template contents new waiting' ends' sup
answering_passed initial s template contents mid new waiting ends waiting' ends' sup a p = elim p [
  | inl kept ↦ passed a.written (Appends-kept contents mid new a.written a.wrote kept.2) (rw (kept.0, kept.1) a.queue)
  | inr done ↦ passed (a.written ++ waiting) (Appends-trans contents mid new a.written waiting a.wrote done.2) (rw (done.0, done.1) (queue_none (AreTold template) a.entries (a.written ++ waiting) a.queue.whole))
] where
  passed : (written : List ℕ) → Appends contents new written → IsQueue (AreTold template) a.entries written waiting' ends' → IsAnswering initial s template contents new waiting' ends' sup
  passed written wrote queue = record { entries = a.entries; read = a.read; written = written; wrote = wrote; after = a.after; template_is = a.template_is; queue = queue }

module _ (initial : Option (List ℕ)) (s : Stream) (template : Template) (contents mid : Option (List ℕ)) (waiting ends : List ℕ) (sup : State) (a : IsAnswering initial s template contents mid waiting ends sup) where
  -- one entry more
  pub answering_more : (s' : Stream) (e : Entry) → IsStreamed initial s' [] template (a.entries ++ e ∷ []) → (sup' : State) (waiting' ends' : List ℕ) → ((history : List Entry) → IsAfter sup history → waiting' ≡ waiting ++ reply_text (reply_after sup.template history e))
      → ((history : List Entry) → IsAfter sup history → IsAfter sup' (history ++ e ∷ [])) → sup'.template ≡ sup.template → ends' ≡ ends ++ length waiting' ∷ [] → IsAnswering initial s' template contents mid waiting' ends' sup'
  answering_more s' e read sup' waiting' ends' replies then same marked =
      let reply = reply_text (reply_after template a.entries e) in
      let grown : waiting' ≡ waiting ++ reply = replies a.entries a.after ∙ ap (λ (t : Template). waiting ++ reply_text (reply_after t a.entries e)) a.template_is in
      let whole : AreTold template (a.entries ++ e ∷ []) (a.written ++ waiting') = ap (λ (l : List ℕ). a.written ++ l) grown ∙ sym (append_assoc a.written waiting reply) ∙ ap (λ (l : List ℕ). l ++ reply) a.queue.whole ∙ sym (text_push template [] a.entries e) in
      record {
        entries = a.entries ++ e ∷ [];
        read = read;
        written = a.written;
        wrote = a.wrote;
        after = then a.entries a.after;
        template_is = same ∙ a.template_is;
        queue = subst (IsQueue (AreTold template) (a.entries ++ e ∷ []) a.written waiting') (sym marked) (queue_more (AreTold template) a.entries e a.written waiting reply waiting' ends a.queue grown whole);
      }

  -- the writer refused, when the stream had given these entries, and perhaps one more
  pub answering_torn : (s' : Stream) (more : List Entry) → IsStreamed initial s' [] template (a.entries ++ more) → (new : Option (List ℕ)) (has_refused : Bool) (e : ScriptFault) → IsTorn waiting ends mid new s.next e → has_refused ≡ true
      → IsStoppedJournal initial s' contents new has_refused e
  answering_torn s' more it new has_refused e t cause =
      let next = next_is initial s template a.entries a.read in
      let line : e.line ≡ e.line - 1 + 1 = omega (arith, t.line_is, a.queue.count, next) in
      let earlier : ScriptFault = record { fault = e.fault; line = e.line - 1 } in
      let torn : IsTorn waiting ends mid new (s.next - 1) earlier = record {
        taken = t.taken;
        whole = t.whole;
        short = t.short;
        wrote = t.wrote;
        cut = t.cut;
        fault_is = t.fault_is;
        line_is = omega (arith, t.line_is, a.queue.count, next);
      } in
      let cut = cut_entries a.entries more a.written waiting ends (s.next - 1) mid new earlier a.queue (omega (arith, next)) torn in
      record {
        given = it.given;
        took = it.took;
        whole = it.whole;
        torn = streamed_ended initial s' [] template (a.entries ++ more) it;
        written = a.written ++ cut.0;
        wrote = Appends-trans contents mid new a.written cut.0 a.wrote cut.1;
        stops = inr (inl (record {
          rest = s'.ready;
          next = s'.next;
          template = template;
          entries = a.entries ++ more;
          read = it.so_far;
          number = e.line - 1;
          line_is = line;
          stops = refused (AreTold template) (a.entries ++ more) (e.line - 1) (a.written ++ cut.0) e.fault t.fault_is cut.2;
        }));
        cause = λ w. cause;
      }
    where
      cut_entries : (front more : List Entry) (written waiting ends : List ℕ) (next : ℕ) (old new : Option (List ℕ)) (e : ScriptFault) → IsQueue (AreTold template) front written waiting ends → next ≡ length front + 1 → IsTorn waiting ends old new next e
          → (sent : List ℕ) × Appends old new sent × IsCutShort (AreTold template) (front ++ more) e.line (written ++ sent)
      cut_entries [] more written waiting ends next old new e q n t =
          let zero : get_or ends (length ends - 1) 0 ≡ 0 = get_or-eq_default ends 0 (omega (arith, q.count)) in
          absurd (omega (arith, q.last, zero, t.short))
      cut_entries (d ∷ ds) more written waiting ends next old new e q n t = torn_cut d (AreTold template) (d ∷ ds) more written waiting ends next old new e q n t

  -- the same without one more
  pub answering_cut : (s' : Stream) → IsStreamed initial s' [] template a.entries → (new : Option (List ℕ)) (has_refused : Bool) (e : ScriptFault) → IsTorn waiting ends mid new s.next e → HasLineCause has_refused e.fault
      → IsStoppedJournal initial s' contents new has_refused e
  answering_cut s' it new has_refused e t cause =
      answering_torn s' [] (subst (λ (es : List Entry). IsStreamed initial s' [] template es) (sym (append-nil a.entries)) it) new has_refused e t (write_cause has_refused e.fault cause t.fault_is)

  -- the reading stopped in the next line, and what waited was written
  pub answering_stops : (s' : Stream) (f : Fault) → (it : IsStreamed initial s' [] template a.entries) × (HistoryStops it.whole s'.next f ⊎ HasStreamCause s'.has_failed f) → (new : Option (List ℕ)) (has_refused : Bool) (e : ScriptFault)
      → IsStop waiting ends mid new has_refused s.next f e → IsStoppedJournal initial s' contents new has_refused e
  answering_stops s' f stopped new has_refused e stop = elim stop [
    | inl done ↦
        let it = stopped.0 in
        let line : e.line ≡ s'.next = ap (λ (x : ScriptFault). x.line) done.1 ∙ next_is initial s template a.entries a.read ∙ sym (next_is initial s' template a.entries it) in
        let fault_is : e.fault ≡ f = ap (λ (x : ScriptFault). x.fault) done.1 in
        let why : HistoryStops it.whole e.line e.fault ⊎ HasStreamCause s'.has_failed e.fault = rw (line, fault_is) stopped.1 in
        record {
          given = it.given;
          took = it.took;
          whole = it.whole;
          torn = streamed_ended initial s' [] template a.entries it;
          written = a.written ++ waiting;
          wrote = Appends-trans contents mid new a.written waiting a.wrote done.0;
          stops = inl (why, inr (s'.ready, template, a.entries, rw line it.so_far, a.queue.whole));
          cause = λ w. absurd (no_write it.whole e.line s'.has_failed e.fault why w);
        }
    | inr torn ↦ answering_torn s' [] (subst (λ (es : List Entry). IsStreamed initial s' [] template es) (sym (append-nil a.entries)) stopped.0) new has_refused e torn.0 torn.1
  ]

  -- there was no memory for the reply to the next entry, and what waited was written
  pub answering_refused : (s' : Stream) (x : Entry) → IsStreamed initial s' [] template (a.entries ++ x ∷ []) → (new : Option (List ℕ)) (has_refused : Bool) (e : ScriptFault) → IsStop waiting ends mid new has_refused s.next fault.OutOfMemory e
      → IsStoppedJournal initial s' contents new has_refused e
  answering_refused s' x it new has_refused e stop = elim stop [
    | inl done ↦
        let fault_is : e.fault ≡ fault.OutOfMemory = ap (λ (y : ScriptFault). y.fault) done.1 in
        let line : e.line ≡ (length a.entries + 1) + 1 = ap (λ (y : ScriptFault). y.line) done.1 ∙ omega (arith, next_is initial s template a.entries a.read) in
        let at : IsAtLine (AreTold template) (a.entries ++ x ∷ []) (length a.entries + 1) (a.written ++ waiting) = record {
          front = a.entries;
          line = x;
          rest = [];
          parts = refl;
          number_is = refl;
          answered = a.queue.whole;
        } in
        record {
          given = it.given;
          took = it.took;
          whole = it.whole;
          torn = streamed_ended initial s' [] template (a.entries ++ x ∷ []) it;
          written = a.written ++ waiting;
          wrote = Appends-trans contents mid new a.written waiting a.wrote done.0;
          stops = inr (inl (record {
            rest = s'.ready;
            next = s'.next;
            template = template;
            entries = a.entries ++ x ∷ [];
            read = it.so_far;
            number = length a.entries + 1;
            line_is = line;
            stops = no_memory (AreTold template) (a.entries ++ x ∷ []) (length a.entries + 1) (a.written ++ waiting) e.fault fault_is at;
          }));
          cause = λ w. absurd (memory_is_no_write e.fault fault_is w);
        }
    | inr torn ↦ answering_torn s' (x ∷ []) it new has_refused e torn.0 torn.1
  ] where
    memory_is_no_write : (f : Fault) → f ≡ fault.OutOfMemory → f ≡ fault.WriteFault → ⊥
    memory_is_no_write f e w = cc

  -- no whole line is left, and the writer takes what waits or refuses
  pub answering_ends : (s' : Stream) → IsStreamed initial s' [] template a.entries → s'.ready ≡ [] → IsAtEnd s'.left → (new : Option (List ℕ)) (waiting' ends' : List ℕ) (has_refused : Bool) (result : Result (Unit {0}) ScriptFault)
      → IsFlushed waiting ends waiting' ends' mid new s.next result → IfErr result (λ e. HasLineCause has_refused e.fault) → EndsAnswering initial s' template sup contents new has_refused result
  answering_ends s' it none end new waiting' ends' has_refused (Ok u) f cause = record {
    entries = a.entries;
    read = it;
    none = none;
    at_end = end;
    after = a.after;
    template_is = a.template_is;
    wrote = subst (Appends contents new) a.queue.whole (Appends-trans contents mid new a.written waiting a.wrote f.2);
  }
  answering_ends s' it none end new waiting' ends' has_refused (Err e) t cause = answering_cut s' it new has_refused e t cause

-- ---- the last line

pub told : (initial : Option (List ℕ)) (s : Stream) (template : Template) (sup : State) (contents mid new : Option (List ℕ)) (has_refused : Bool) (result : Result (Unit {0}) ScriptFault) → AreAllAnswered initial s template sup contents mid
    → ((history : List Entry) → IsAfter sup history → EndsTelling (last_text (length history) (length s.torn) (count sup.template history)) s.next mid new has_refused result) → IsJournal initial s contents new has_refused result
told initial s template sup contents mid new has_refused (Ok u) a tells =
    let told : Appends mid new (last_text (length a.entries) (length s.torn) (count template a.entries)) = rw (← a.template_is) (tells a.entries a.after) in
    record {
      given = a.read.given;
      took = a.read.took;
      at_end = a.at_end;
      whole = a.read.whole;
      torn = record { rest = s.torn; parts = a.read.parts; unended = a.read.lacks; ended = a.read.full };
      template = template;
      entries = a.entries;
      spelled = streamed_spelled initial s [] template a.entries a.read a.none;
      wrote = Appends-trans contents mid new (entries_text template [] a.entries) (last_text (length a.entries) (length s.torn) (count template a.entries)) a.wrote told;
    }
told initial s template sup contents mid new has_refused (Err e) a tells =
    let t = tells a.entries a.after in
    elim t.1 [
      | inl memory ↦
          let why : HistoryStops a.read.whole e.line e.fault ⊎ HasStreamCause s.has_failed e.fault = inr (rw memory.0 tt) in
          stopped (entries_text template [] a.entries) (Appends-kept contents mid new (entries_text template [] a.entries) a.wrote memory.1)
          (inl (why, inr (s.ready, template, a.entries, rw t.0 a.read.so_far, refl)))
          (λ w. absurd (no_write a.read.whole e.line s.has_failed e.fault why w))
      | inr cut ↦
          let part = cut.2 in
          stopped (entries_text template [] a.entries ++ part.0) (Appends-trans contents mid new (entries_text template [] a.entries) part.0 a.wrote part.4)
          (inr (inr (
            cut.0,
            record {
              template = template;
              entries = a.entries;
              spelled = streamed_spelled initial s [] template a.entries a.read a.none;
              rest = s.ready;
              read = rw t.0 a.read.so_far;
              torn = length s.torn;
              sent = part.0;
              unsent = part.1;
              some = part.3;
              written_is = refl;
              last = rw (← a.template_is) part.2;
            },
          )))
          (λ w. cut.1)
    ]
  where
    stopped : (written : List ℕ) → Appends contents new written → JournalStops a.read.whole s.has_failed written e → (e.fault ≡ fault.WriteFault → has_refused ≡ true) → IsStoppedJournal initial s contents new has_refused e
    stopped written wrote stops cause = record {
      given = a.read.given;
      took = a.read.took;
      whole = a.read.whole;
      torn = streamed_ended initial s [] template a.entries a.read;
      written = written;
      wrote = wrote;
      stops = stops;
      cause = cause;
    }

-- the text was sent as far as the writer took it
pub telling_sent : (text bytes : List ℕ) (taken : ℕ) (old new : Option (List ℕ)) → bytes ≡ text → (taken < length bytes) × Appends old new (take taken bytes)
    → (sent : List ℕ) × (unsent : List ℕ) × (text ≡ sent ++ unsent) × (0 < length unsent) × Appends old new sent
telling_sent text bytes taken old new same sent =
    (take taken bytes, drop taken bytes, sym same ∙ sym (take-append-drop taken bytes), omega (arith, sent.0, length-drop taken bytes), sent.1)

pub keeps_same : (a : Option (List ℕ)) → Keeps a a
keeps_same None = tt
keeps_same (Some xs) = refl
