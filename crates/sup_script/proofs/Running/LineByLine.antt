-- Answering line after line.
use Rattle.std.proofs.Common.{◌≡◌, ◌⊎◌, ℕ, ◌+◌, ◌<◌, List, [], ◌∷◌, ◌++◌, length, Option, None, Some, Result, Ok, Err, refl, sym, ap, subst, ◌∙◌, append_assoc, append-nil, arith, inl, inr}
use Rattle.std.specs.Io.KnownBytes.{Appends, Keeps}
use Rattle.std.proofs.KnownBytes.{Appends-nil, Appends-trans, Appends-kept}
use Rattle.std.proofs.lemmas.List.{length-append, append_cancel_left}
use Rattle.sup_types.specs.declared.template.Template.{Template}
use Rattle.sup_types.specs.declared.history.Entry.{Entry}
use Rattle.sup_core.specs.State.{State}
use Rattle.sup_core.specs.Account.{IsAfter}
use Rattle.sup_format.specs.declared.read.command.Command.{Command}
use Rattle.sup_format.specs.declared.fault.Fault.{Fault}
use Rattle.sup_format.specs.declared.fault.Fault.TheVariants as fault
use Rattle.sup_format.specs.declared.fault.ScriptFault.{ScriptFault}
use Rattle.sup_format.specs.Reading.Words.{words_of}
use Rattle.sup_format.specs.Reading.Lines.{LineMeans, MeansNothing}
use Rattle.sup_format.specs.Reading.Headers.{AreHeaderWords, IsFirst, HasFirst}
use Rattle.sup_script.specs.Running.Script.{Answering, text_of, history_after, replies_text, AreMeant, Answers, StopsWith, IsBadAfter}
use Rattle.sup_script.specs.Running.Stops.{IsAtLine, IsCutShort}
use Rattle.sup_script.specs.Running.Answering.{histories, Stands, IsAnsweredTo, IsAnsweredMore, LineGives, LinesGive, IsWaiting}
use Rattle.sup_format.specs.Writing.Waiting.{IsTorn, IsFlushed}
use Rattle.sup_script.proofs.Running.Queues.{queue_none, queue_more, torn_cut}

meant_push : (lines : List (List ℕ)) (cs : List Command) (line : List ℕ) (c : Command) → AreMeant lines cs → LineMeans line c → AreMeant (lines ++ line ∷ []) (cs ++ c ∷ [])
meant_push [] [] line c s m = (m, tt)
meant_push [] (d ∷ ds) line c s m = absurd s
meant_push (l ∷ ls) [] line c s m = absurd s
meant_push (l ∷ ls) (d ∷ ds) line c s m = (s.0, meant_push ls ds line c s.1 m)

replies_push : (answer : Answering) (template : Template) (h : List Entry) (cs : List Command) (c : Command) → replies_text answer template h (cs ++ c ∷ []) ≡ replies_text answer template h cs ++ text_of answer template (histories answer template h cs) c
replies_push answer template h [] c = append-nil (text_of answer template h c)
replies_push answer template h (d ∷ ds) c =
    ap (λ (l : List ℕ). text_of answer template h d ++ l) (replies_push answer template (history_after answer template h d) ds c)
    ∙ sym (append_assoc (text_of answer template h d) (replies_text answer template (history_after answer template h d) ds) (text_of answer template (histories answer template (history_after answer template h d) ds) c))

histories_push : (answer : Answering) (template : Template) (h : List Entry) (cs : List Command) (c : Command) → histories answer template h (cs ++ c ∷ []) ≡ history_after answer template (histories answer template h cs) c
histories_push answer template h [] c = refl
histories_push answer template h (d ∷ ds) c = histories_push answer template (history_after answer template h d) ds c

stands_answered : (answer : Answering) (front : List (List ℕ)) (text : List ℕ) (sup : Option State) → Stands answer front text sup → Answers answer front text
stands_answered answer [] text None s = s
stands_answered answer [] text (Some sup) s = absurd s
stands_answered answer (header ∷ body) text None s = absurd s
stands_answered answer (header ∷ body) text (Some sup) s =
    record { template = sup.template; header_is = s.header_is; commands = s.commands; meant = s.meant; replies = s.replies }

pub answers_of : (answer : Answering) (front : List (List ℕ)) (text : List ℕ) (sup : Option State) (next : ℕ) → IsAnsweredTo answer front text sup next → Answers answer front text
answers_of answer front text sup next s = stands_answered answer front text sup s.stands

-- ---- one line

-- the first line makes the supervisor
stands_first : (answer : Answering) (front : List (List ℕ)) (text line : List ℕ) (sup : State) → Stands answer front text None → IsFirst AreHeaderWords line sup.template → IsAfter sup [] → Stands answer (front ++ line ∷ []) (text ++ []) (Some sup)
stands_first answer [] text line sup s h after =
    record { header_is = h; commands = []; meant = tt; replies = append-nil text ∙ s; after = after }
stands_first answer (header ∷ body) text line sup s h after = absurd s

-- each other one goes on with it
stands_more : (answer : Answering) (front : List (List ℕ)) (text line more : List ℕ) (c : Command) (old new : State) → Stands answer front text (Some old) → LineMeans line c → new.template ≡ old.template
    → ((h : List Entry) → IsAfter old h → more ≡ text_of answer old.template h c) → ((h : List Entry) → IsAfter old h → IsAfter new (history_after answer old.template h c)) → Stands answer (front ++ line ∷ []) (text ++ more) (Some new)
stands_more answer [] text line more c old new s m same texts afters = absurd s
stands_more answer (header ∷ body) text line more c old new s m same texts afters =
    let h = histories answer old.template [] s.commands in
    let replies : text ++ more ≡ replies_text answer old.template [] (s.commands ++ c ∷ []) =
    ap (λ (l : List ℕ). l ++ more) s.replies ∙ ap (λ (l : List ℕ). replies_text answer old.template [] s.commands ++ l) (texts h s.after) ∙ sym (replies_push answer old.template [] s.commands c) in
    let after : IsAfter new (histories answer old.template [] (s.commands ++ c ∷ [])) = rw (histories_push answer old.template [] s.commands c) (afters h s.after) in
    record {
      header_is = rw same s.header_is;
      commands = s.commands ++ c ∷ [];
      meant = meant_push body s.commands line c s.meant m;
      replies = rw same replies;
      after = subst (λ t. IsAfter new (histories answer t [] (s.commands ++ c ∷ []))) (sym same) after;
    }

module _ (answer : Answering) (front : List (List ℕ)) (text line : List ℕ) (next : ℕ) (old : List ℕ) where
  pub header_gives : (sup : State) → IsAnsweredTo answer front text None next → IsFirst AreHeaderWords line sup.template → IsAfter sup [] → IsAnsweredMore answer front text line (Some sup) next old old
  header_gives sup s h after = record {
    more = [];
    grown = sym (append-nil old);
    so_far = record { stands = stands_first answer front text line sup s.stands h after; next_is = omega (arith, s.next_is, length-append front (line ∷ [])) };
  }

  header_stops : (f : Fault) (lines : List (List ℕ)) (sup' : Option State) (new : List ℕ) → Stands answer lines text None → HasFirst AreHeaderWords line (Err f) → LineGives answer lines text line sup' next old new (Err f)
  header_stops fault.OutOfMemory lines sup' new s h = absurd h
  header_stops fault.BadTemplate [] sup' new s h = (refl, h)
  header_stops fault.BadTemplate (l ∷ ls) sup' new s h = absurd s
  header_stops fault.BadLine [] sup' new s h = h
  header_stops fault.BadLine (l ∷ ls) sup' new s h = absurd s
  header_stops fault.ReadFault lines sup' new s h = absurd h
  header_stops fault.WriteFault lines sup' new s h = absurd h
  header_stops fault.TooLong lines sup' new s h = absurd h

  pub header_refused : (f : Fault) (sup' : Option State) (new : List ℕ) → IsAnsweredTo answer front text None next → HasFirst AreHeaderWords line (Err f) → LineGives answer front text line sup' next old new (Err f)
  header_refused f sup' new s h = header_stops f front sup' new s.stands h

  -- there is no supervisor
  pub header_fails : (f : Fault) (sup' : Option State) (new : List ℕ) → IsAnsweredTo answer front text None next → (f ≡ fault.OutOfMemory) ⊎ HasFirst AreHeaderWords line (Err f) → LineGives answer front text line sup' next old new (Err f)
  header_fails f sup' new s why = elim why [ inl e ↦ no_memory f sup' new e | inr h ↦ header_refused f sup' new s h ] where
    no_memory : (f : Fault) (sup' : Option State) (new : List ℕ) → f ≡ fault.OutOfMemory → LineGives answer front text line sup' next old new (Err f)
    no_memory f sup' new e = rw e tt

  bad_after : (lines : List (List ℕ)) (sup : State) → Stands answer lines text (Some sup) → MeansNothing (words_of line) → IsBadAfter lines line
  bad_after [] sup s h = absurd s
  bad_after (l ∷ ls) sup s h = h

  pub line_bad : (sup : State) → IsAnsweredTo answer front text (Some sup) next → MeansNothing (words_of line) → IsBadAfter front line
  line_bad sup s h = bad_after front sup s.stands h

  history_of : (lines : List (List ℕ)) (sup : State) → Stands answer lines text (Some sup) → (h : List Entry) × IsAfter sup h
  history_of [] sup s = absurd s
  history_of (l ∷ ls) sup s = (histories answer sup.template [] s.commands, s.after)

  pub line_gives : (c : Command) (sup sup' : State) (new : List ℕ) → IsAnsweredTo answer front text (Some sup) next → LineMeans line c → sup'.template ≡ sup.template
      → ((h : List Entry) → IsAfter sup h → new ≡ old ++ text_of answer sup.template h c) → ((h : List Entry) → IsAfter sup h → IsAfter sup' (history_after answer sup.template h c)) → IsAnsweredMore answer front text line (Some sup') next old new
  line_gives c sup sup' new s m same texts afters =
      let h = history_of front sup s.stands in
      let grown = texts h.0 h.1 in
      record {
        more = text_of answer sup.template h.0 c;
        grown = grown;
        so_far = record {
          stands = stands_more answer front text line (text_of answer sup.template h.0 c) c sup sup' s.stands m same (λ h' after. append_cancel_left old _ _ (sym grown ∙ texts h' after)) afters;
          next_is = omega (arith, s.next_is, length-append front (line ∷ []));
        };
      }

-- ---- replies that wait

-- nothing waits
pub waits_none : (answer : Answering) (front : List (List ℕ)) (written : List ℕ) (sup : Option State) (next : ℕ) → IsAnsweredTo answer front written sup next → IsWaiting answer front written [] [] sup next
waits_none answer front written sup next s =
    record { so_far = rw (append-nil written) s; queue = queue_none (Answers answer) front written (answers_of answer front written sup next s) }

-- one reply more waits
pub waits_more : (answer : Answering) (front : List (List ℕ)) (line written old new ends : List ℕ) (sup sup' : Option State) (next : ℕ)
    → IsWaiting answer front written old ends sup next → IsAnsweredMore answer front (written ++ old) line sup' next old new → IsWaiting answer (front ++ line ∷ []) written new (ends ++ length new ∷ []) sup' (next + 1)
waits_more answer front line written old new ends sup sup' next w one =
    let whole : written ++ new ≡ (written ++ old) ++ one.more = ap (λ (l : List ℕ). written ++ l) one.grown ∙ sym (append_assoc written old one.more) in
    let so_far : IsAnsweredTo answer (front ++ line ∷ []) (written ++ new) sup' (next + 1) = rw whole one.so_far in
    record {
      so_far = so_far;
      queue = queue_more (Answers answer) front line written old one.more new ends w.queue one.grown (answers_of answer (front ++ line ∷ []) (written ++ new) sup' (next + 1) so_far);
    }

-- ---- where the writing stops

stops_by_write : (answer : Answering) (lines : List (List ℕ)) (number : ℕ) (written : List ℕ) (f : Fault) → f ≡ fault.WriteFault → IsCutShort (Answers answer) lines number written → StopsWith answer lines written number f
stops_by_write answer lines number written f e c = rw e c

pub torn_stops : (answer : Answering) (front more : List (List ℕ)) (written waiting ends : List ℕ) (sup : Option State) (next : ℕ) (old new : Option (List ℕ)) (e : ScriptFault)
    → IsWaiting answer front written waiting ends sup next → IsTorn waiting ends old new next e → (sent : List ℕ) × Appends old new sent × StopsWith answer (front ++ more) (written ++ sent) e.line e.fault
torn_stops answer front more written waiting ends sup next old new e w t =
    let cut = torn_cut [] (Answers answer) front more written waiting ends next old new e w.queue w.so_far.next_is t in
    (cut.0, cut.1, stops_by_write answer (front ++ more) e.line (written ++ cut.0) e.fault t.fault_is cut.2)

-- the line behind a front has a fault
line_stops : (answer : Answering) (whole : List (List ℕ)) (text : List ℕ) (number : ℕ) (front : List (List ℕ)) (line : List ℕ) (left : List (List ℕ)) (before : List ℕ) (sup : Option State) (bytes : List ℕ) (f : Fault)
    → whole ≡ front ++ line ∷ left → number ≡ length front + 1 → Answers answer front text → LineGives answer front before line sup number bytes bytes (Err f) → StopsWith answer whole text number f
line_stops answer whole text number front line left before sup bytes fault.OutOfMemory parts n a h = record { front = front; line = line; rest = left; parts = parts; number_is = n; answered = a }
line_stops answer whole text number front line left before sup bytes fault.BadTemplate parts n a h = (record { front = front; line = line; rest = left; parts = parts; number_is = n; answered = a }, h.0, h.1)
line_stops answer whole text number front line left before sup bytes fault.BadLine parts n a h = (record { front = front; line = line; rest = left; parts = parts; number_is = n; answered = a }, h)
line_stops answer whole text number front line left before sup bytes fault.ReadFault parts n a h = absurd h
line_stops answer whole text number front line left before sup bytes fault.WriteFault parts n a h = absurd h
line_stops answer whole text number front line left before sup bytes fault.TooLong parts n a h = absurd h

-- ---- the lines of a text

-- some of the lines were answered, and these are left
pub record IsPartly (answer : Answering) (front : List (List ℕ)) (text : List ℕ) (whole left : List (List ℕ)) (waiting ends : List ℕ) (sup : Option State) (old new : Option (List ℕ)) (next : ℕ) : Type 0 where
  pub body : List (List ℕ)
  pub parts : whole ≡ body ++ left
  pub more : List ℕ
  pub wrote : Appends old new more
  pub waits : IsWaiting answer (front ++ body) (text ++ more) waiting ends sup next

module _ (answer : Answering) (front : List (List ℕ)) (text : List ℕ) (whole : List (List ℕ)) (old : Option (List ℕ)) where
  pub partly_none : (sup : Option State) (next : ℕ) (waiting ends : List ℕ) → waiting ≡ [] → ends ≡ [] → IsAnsweredTo answer front text sup next → IsPartly answer front text whole whole waiting ends sup old old next
  partly_none sup next waiting ends w e s = record {
    body = [];
    parts = refl;
    more = [];
    wrote = Appends-nil old;
    waits = rw (append-nil front, append-nil text, w, e) (waits_none answer front text sup next s);
  }

  module _ (left : List (List ℕ)) (waiting ends : List ℕ) (sup : Option State) (mid : Option (List ℕ)) (next : ℕ) (p : IsPartly answer front text whole left waiting ends sup old mid next) where
    pub partly_more : (line : List ℕ) (left' : List (List ℕ)) (waiting' ends' : List ℕ) (sup' : Option State) → left ≡ line ∷ left' → IsWaiting answer ((front ++ p.body) ++ line ∷ []) (text ++ p.more) waiting' ends' sup' (next + 1)
        → IsPartly answer front text whole left' waiting' ends' sup' old mid (next + 1)
    partly_more line left' waiting' ends' sup' e w = record {
      body = p.body ++ line ∷ [];
      parts = p.parts ∙ ap (λ (l : List (List ℕ)). p.body ++ l) e ∙ sym (append_assoc p.body (line ∷ []) left');
      more = p.more;
      wrote = p.wrote;
      waits = rw (← append_assoc front p.body (line ∷ [])) w;
    }

    pub partly_flushed : (new : Option (List ℕ)) (waiting' ends' : List ℕ) → waiting' ≡ [] → ends' ≡ [] → Appends mid new waiting → IsPartly answer front text whole left waiting' ends' sup old new next
    partly_flushed new waiting' ends' w e wrote = record {
      body = p.body;
      parts = p.parts;
      more = p.more ++ waiting;
      wrote = Appends-trans old mid new _ _ p.wrote wrote;
      waits = rw (w, e, ← append_assoc text p.more waiting) (waits_none answer (front ++ p.body) ((text ++ p.more) ++ waiting) sup next p.waits.so_far);
    }

    pub partly_passed : (new : Option (List ℕ)) (waiting' ends' : List ℕ) → ((waiting' ≡ waiting) × (ends' ≡ ends) × Keeps mid new) ⊎ ((waiting' ≡ []) × (ends' ≡ []) × Appends mid new waiting)
        → IsPartly answer front text whole left waiting' ends' sup old new next
    partly_passed new waiting' ends' h = elim h [
      | inl kept ↦ record { body = p.body; parts = p.parts; more = p.more; wrote = Appends-kept old mid new _ p.wrote kept.2; waits = rw (kept.0, kept.1) p.waits }
      | inr done ↦ partly_flushed new waiting' ends' done.0 done.1 done.2
    ]

    whole_is : front ++ whole ≡ (front ++ p.body) ++ left
    whole_is = ap (λ (l : List (List ℕ)). front ++ l) p.parts ∙ sym (append_assoc front p.body left)

    -- the writer refused
    pub partly_torn : (new : Option (List ℕ)) (e : ScriptFault) → IsTorn waiting ends mid new next e → (more : List ℕ) × Appends old new more × StopsWith answer (front ++ whole) (text ++ more) e.line e.fault
    partly_torn new e t =
        let stops = torn_stops answer (front ++ p.body) left (text ++ p.more) waiting ends sup next mid new e p.waits t in
        (p.more ++ stops.0, Appends-trans old mid new _ _ p.wrote stops.1, rw (whole_is, ← append_assoc text p.more stops.0) stops.2)

    -- a line has a fault, and all before is written
    pub partly_stops : (line : List ℕ) (left' : List (List ℕ)) (sup' : Option State) (new : Option (List ℕ)) (bytes : List ℕ) (f : Fault) → left ≡ line ∷ left' → Appends mid new waiting
        → LineGives answer (front ++ p.body) (text ++ p.more) line sup' next bytes bytes (Err f) → (more : List ℕ) × Appends old new more × StopsWith answer (front ++ whole) (text ++ more) next f
    partly_stops line left' sup' new bytes f e wrote h =
        let at : IsAtLine (Answers answer) (front ++ whole) next (text ++ (p.more ++ waiting)) = record {
          front = front ++ p.body;
          line = line;
          rest = left';
          parts = whole_is ∙ ap (λ (l : List (List ℕ)). (front ++ p.body) ++ l) e;
          number_is = p.waits.so_far.next_is;
          answered = rw (← append_assoc text p.more waiting) (answers_of answer (front ++ p.body) ((text ++ p.more) ++ waiting) sup next p.waits.so_far);
        } in
        (p.more ++ waiting, Appends-trans old mid new _ _ p.wrote wrote, line_stops answer (front ++ whole) (text ++ (p.more ++ waiting)) next (front ++ p.body) line left' (text ++ p.more) sup' bytes f at.parts at.number_is at.answered h)

  -- all lines were answered, and their replies are written
  pub partly_all : (waiting ends : List ℕ) (sup : Option State) (mid new : Option (List ℕ)) (next : ℕ) → IsPartly answer front text whole [] waiting ends sup old mid next → Appends mid new waiting
      → (more : List ℕ) × Appends old new more × IsAnsweredTo answer (front ++ whole) (text ++ more) sup next
  partly_all waiting ends sup mid new next p wrote =
      let all : whole ≡ p.body = p.parts ∙ append-nil p.body in
      (p.more ++ waiting, Appends-trans old mid new _ _ p.wrote wrote, rw (all, ← append_assoc text p.more waiting) p.waits.so_far)

  -- they were answered, and the writer takes what waits or refuses
  pub partly_ends : (waiting ends waiting' ends' : List ℕ) (sup : Option State) (mid new : Option (List ℕ)) (next : ℕ) (r : Result (Unit {0}) ScriptFault) → IsPartly answer front text whole [] waiting ends sup old mid next
      → IsFlushed waiting ends waiting' ends' mid new next r → LinesGive answer front text whole sup next old new r
  partly_ends waiting ends waiting' ends' sup mid new next (Ok u) p f = partly_all waiting ends sup mid new next p f.2
  partly_ends waiting ends waiting' ends' sup mid new next (Err e) p t = partly_torn [] waiting ends sup mid next p new e t

pub few_left : (bytes ends bytes' ends' : List ℕ) (old new : Option (List ℕ)) (n : ℕ) → ((bytes' ≡ bytes) × (ends' ≡ ends) × Keeps old new) ⊎ ((bytes' ≡ []) × (ends' ≡ []) × Appends old new bytes) → length ends < n → length ends' < n
few_left bytes ends bytes' ends' old new n h few = elim h [
  | inl kept ↦ rw kept.1 few
  | inr done ↦ rw done.1 (omega arith)
]
