-- One step more of a driver.
use Rattle.std.proofs.Common.{◌≡◌, ℕ, zero, suc, ◌+◌, ◌<◌, ◌≤◌, length, take, drop, get_or, length-append, List, [], ◌∷◌, ◌++◌, Option, Some, None, true, false, refl, ap, sym, ◌∙◌, subst, arith, append_assoc, append-nil}
use mathlib.Core.List.{IsPrefix}
use Rattle.sup_types.specs.declared.text.Text.{Text}
use Rattle.sup_types.specs.declared.template.Template.{Template}
use Rattle.sup_types.specs.declared.history.Answer.{Answer}
use Rattle.sup_types.specs.declared.history.Operation.{Operation}
use Rattle.sup_types.specs.declared.history.Operation.TheVariants.{Start, Exit, Retry, Terminate, Stop}
use Rattle.sup_types.specs.declared.history.Reply.{Reply}
use Rattle.sup_types.specs.declared.history.Reply.TheVariants.{Started, Restarted}
use Rattle.sup_log.specs.Tokens.{Told}
use Rattle.sup_types.specs.declared.history.Entry.{Entry}
use Rattle.std.proofs.lemmas.List.Elements.{All-append}
use Rattle.std.proofs.Math.Seq.{drop-append_seam}
use Rattle.std.proofs.lemmas.List.{take_more, take_all, take-append-drop, drop-take}
use Rattle.sup_desk.specs.Knowledge.{Knowledge, entries_of}
use Rattle.sup_desk.specs.Batches.{IsApplied}
use Rattle.sup_inbox.specs.declared.note.Note.{Note}
use Rattle.sup_crew.specs.declared.job.Child.{Child}
use Rattle.sup_crew.specs.Jobs.{weigh}
use Rattle.sup_crew.specs.Tallies.{tally_of, with_replies}
use Rattle.sup_crew.proofs.Tallied.{tally-exits, tally-starts}
use Rattle.sup_crew.specs.Calls.{Call, calls_of, answered, exits_in, starts_in, start_of, starts_of, job_made, notes_after, jobs_made, AreDriven}
use Rattle.sup_crew.specs.Exits.{exit_of, exits}
use Rattle.std.specs.Prelude.{IsSome, IfSome, IfNone, MatchOption}
use Rattle.std.specs.Option.{option_or}
use Rattle.sup_crew.specs.Drains.{notes_of, replies_of, IsEntered}
use Rattle.sup_crew.specs.Dispatchers.{HasDispatched}
use Rattle.sup_crew.specs.Drivers.{started_job, started_jobs, restarted_job, restarted_jobs, AreAt, HasCalled, HasAll, HasNotCalled, calls_since, Run, DriverModel, calls_of_driver, HasDriven, IsSameDriver, IsAtWork}
use Rattle.std.specs.Global.{Global}
use Rattle.atomic_table.specs.Seated.{TableId}
use Rattle.crossbeam_queue.specs.SegTies.{SegId}
use Rattle.sup_crew.specs.JobLaws.{weigh-append}
use Rattle.sup_crew.specs.ExitLaws.{exits-append}
use Rattle.logbook.specs.Pages.{Book}
use Rattle.sup_crew.proofs.DrainLemmas.{applied-length, take-le, take-within}
use Rattle.sup_crew.proofs.Called.{trans, calls-length, calls-stay, applied-since, applied-own, entered-at}

-- the first of these starts were entered together, as many as there are replies, up to this ticket; or none was
abbrev pub HasStarted : (Text → ℕ → Answer → Type 0) → Template → Book → Knowledge → Knowledge → ℕ → List Text → List Reply → Option Told → Type 0
HasStarted may template press before after moment args replies ticket =
    MatchOption ticket
    ((replies ≡ []) × HasNotCalled before after)
    (λ told. IsApplied may template press before (take (length replies) (starts_of args)) moment after replies told × (length replies ≤ length args))

-- the first of a batch that begins what remains, after those before it
pub batch_first : (all batch rest : List Text) (n k : ℕ) → drop n all ≡ batch ++ rest → k ≤ length batch → take n all ++ take k batch ≡ take (n + k) all
batch_first all batch rest n k e low =
    (λ i. sym (take-within n (n + k) all (omega arith)) i ++ (sym (within k batch low) ∙ ap (take k) (sym e) ∙ sym (drop-take n k all)) i)
    ∙ take-append-drop n (take (n + k) all)
  where
    within : (k : ℕ) (xs : List Text) → k ≤ length xs → take k (xs ++ rest) ≡ take k xs
    within zero xs low = refl
    within (suc k) [] low = absurd (omega (arith, low))
    within (suc k) (x ∷ xs) low = ap (λ l. x ∷ l) (within k xs (omega (arith, low)))

starts_of-length : (args : List Text) → length (starts_of args) ≡ length args
starts_of-length [] = refl
starts_of-length (a ∷ args) = ap suc (starts_of-length args)

module _ (may : Text → ℕ → Answer → Type 0) (template : Template) (press : Book) (before after : Knowledge) (moment : ℕ) (operations : List Operation) (args : List Text) (are : operations ≡ starts_of args) (replies : List Reply) where
  -- without a fault all were
  pub all-started : (told : Told) → IsApplied may template press before operations moment after replies told → HasStarted may template press before after moment args replies (Some told) × (length replies ≡ length args)
  all-started told h =
      let n = applied-length may template press before after operations moment replies told h in
      let l = ap (λ (l : List Operation). length l) are ∙ starts_of-length args in
      let all = are ∙ sym (take_all (length replies) (starts_of args) (let m = starts_of-length args in omega (arith, n, l, m))) in
      ((subst (λ os. IsApplied may template press before os moment after replies told) all h, omega (arith, n, l)), n ∙ l)

  pub part-started : (ticket : Option Told) → IfSome ticket (λ t. IsApplied may template press before (take (length replies) operations) moment after replies t × (0 < length replies))
      → IfNone ticket ((replies ≡ []) × (after.calls ≡ before.calls) × (after.number ≡ before.number)) → HasStarted may template press before after moment args replies ticket
  part-started None some none = (none.0, (none.1, none.2))
  part-started (Some told) some none =
      let h = subst (λ os. IsApplied may template press before (take (length replies) os) moment after replies told) are some.0 in
      let n = applied-length may template press before after (take (length replies) (starts_of args)) moment replies told h in
      let le = take-le (length replies) (starts_of args) in
      let m = starts_of-length args in
      (h, omega (arith, n, le, m))

pub few-started : (may : Text → ℕ → Answer → Type 0) (template : Template) (press : Book) (before after : Knowledge) (moment : ℕ) (args : List Text) (replies : List Reply) (ticket : Option Told)
    → HasStarted may template press before after moment args replies ticket → length replies ≤ length args
few-started may template press before after moment args replies None h = let e = ap (λ (l : List Reply). length l) h.0 in omega (arith, e)
few-started may template press before after moment args replies (Some told) h = h.1

driven-append : (cs ds : List Call) → AreDriven cs → AreDriven ds → AreDriven (cs ++ ds)
driven-append [] ds a b = b
driven-append (c ∷ cs) ds a b = (a.0, driven-append cs ds a.1 b)

starts-append : (cs ds : List Call) → starts_in (cs ++ ds) ≡ starts_in cs ++ starts_in ds
starts-append [] ds = refl
starts-append (c ∷ cs) ds = ap (λ l. start_of c.operation ++ l) (starts-append cs ds) ∙ sym (append_assoc (start_of c.operation) (starts_in cs) (starts_in ds))

exits_in-append : (cs ds : List Call) → exits_in (cs ++ ds) ≡ exits_in cs ++ exits_in ds
exits_in-append [] ds = refl
exits_in-append (c ∷ cs) ds = ap (λ l. exit_of c.operation ++ l) (exits_in-append cs ds) ∙ sym (append_assoc (exit_of c.operation) (exits_in cs) (exits_in ds))

-- the first note is that of the exit, if the call is one
front_note : (operation : Operation) (reply : Reply) (rest : List Operation) (notes more : List Note) → exit_of operation ++ rest ≡ exits notes
    → (job_made operation reply (notes ++ more) ≡ job_made operation reply notes) × (notes_after operation (notes ++ more) ≡ notes_after operation notes ++ more) × (rest ≡ exits (notes_after operation notes))
front_note (Exit number reason) reply rest [] more e = absurd (cc e)
front_note (Exit number reason) (Restarted old next) rest (note ∷ notes) more e = (refl, refl, cc e)
front_note (Exit number reason) _ rest (note ∷ notes) more e = (refl, refl, cc e)
front_note (Start arg) (Started next) rest notes more e = (refl, refl, e)
front_note (Start arg) _ rest notes more e = (refl, refl, e)
front_note (Retry number) _ rest notes more e = (refl, refl, e)
front_note (Terminate number) _ rest notes more e = (refl, refl, e)
front_note Stop _ rest notes more e = (refl, refl, e)

jobs_made-append : (cs ds : List Call) (notes more : List Note) → exits_in cs ≡ exits notes → jobs_made (cs ++ ds) (notes ++ more) ≡ jobs_made cs notes ++ jobs_made ds more
jobs_made-append [] ds [] more e = refl
jobs_made-append [] ds (note ∷ notes) more e = absurd (cc e)
jobs_made-append (c ∷ cs) ds notes more e =
    let f = front_note c.operation c.reply (exits_in cs) notes more e in
    (λ i. f.0 i ++ jobs_made (cs ++ ds) (f.1 i))
    ∙ ap (λ l. job_made c.operation c.reply notes ++ l) (jobs_made-append cs ds (notes_after c.operation notes) more f.2)
    ∙ sym (append_assoc (job_made c.operation c.reply notes) (jobs_made cs (notes_after c.operation notes)) (jobs_made ds more))

-- the exits that these notes tell, with their replies
driven_exits : (pairs : List (Note × Reply)) → AreDriven (answered (exits (notes_of pairs)) (replies_of pairs))
driven_exits [] = tt
driven_exits (p ∷ ps) = (tt, driven_exits ps)

starts_exits : (pairs : List (Note × Reply)) → starts_in (answered (exits (notes_of pairs)) (replies_of pairs)) ≡ []
starts_exits [] = refl
starts_exits (p ∷ ps) = starts_exits ps

exits_exits : (pairs : List (Note × Reply)) → exits_in (answered (exits (notes_of pairs)) (replies_of pairs)) ≡ exits (notes_of pairs)
exits_exits [] = refl
exits_exits (p ∷ ps) = ap (λ l. Exit p.0.number p.0.reason ∷ l) (exits_exits ps)

job_exit : (note : Note) (notes : List Note) (reply : Reply) → job_made (Exit note.number note.reason) reply (note ∷ notes) ≡ restarted_job note reply
job_exit note notes (Restarted old number) = refl
job_exit note notes _ = refl

jobs_exits : (pairs : List (Note × Reply)) → jobs_made (answered (exits (notes_of pairs)) (replies_of pairs)) (notes_of pairs) ≡ restarted_jobs pairs
jobs_exits [] = refl
jobs_exits (p ∷ ps) = λ i. job_exit p.0 (notes_of ps) p.1 i ++ jobs_exits ps i

starts_of-append : (xs ys : List Text) → starts_of (xs ++ ys) ≡ starts_of xs ++ starts_of ys
starts_of-append [] ys = refl
starts_of-append (x ∷ xs) ys = ap (λ l. Start x ∷ l) (starts_of-append xs ys)

-- one start more
pub starts_more : (args : List Text) (k : ℕ) (arg : Text) → k < length args → arg ≡ get_or args k arg → starts_of (take k args) ++ Start arg ∷ [] ≡ starts_of (take (k + 1) args)
starts_more args k arg low is =
    ap (λ a. starts_of (take k args) ++ Start a ∷ []) is
    ∙ sym (starts_of-append (take k args) (get_or args k arg ∷ []))
    ∙ ap starts_of (sym (take_more args k arg low))

-- the first starts of these arguments, with their replies
driven_starts : (args : List Text) (replies : List Reply) → AreDriven (answered (take (length replies) (starts_of args)) replies)
driven_starts args [] = tt
driven_starts [] (r ∷ rs) = tt
driven_starts (a ∷ args) (r ∷ rs) = (tt, driven_starts args rs)

starts_starts : (args : List Text) (replies : List Reply) → starts_in (answered (take (length replies) (starts_of args)) replies) ≡ take (length replies) args
starts_starts args [] = refl
starts_starts [] (r ∷ rs) = refl
starts_starts (a ∷ args) (r ∷ rs) = ap (λ l. a ∷ l) (starts_starts args rs)

exits_starts : (args : List Text) (replies : List Reply) → exits_in (answered (take (length replies) (starts_of args)) replies) ≡ []
exits_starts args [] = refl
exits_starts [] (r ∷ rs) = refl
exits_starts (a ∷ args) (r ∷ rs) = exits_starts args rs

job_start : (arg : Text) (reply : Reply) → job_made (Start arg) reply [] ≡ started_job arg reply
job_start arg (Started number) = refl
job_start arg _ = refl

jobs_starts : (args : List Text) (replies : List Reply) → jobs_made (answered (take (length replies) (starts_of args)) replies) [] ≡ started_jobs args replies
jobs_starts args [] = refl
jobs_starts [] (r ∷ rs) = refl
jobs_starts (a ∷ args) (r ∷ rs) = λ i. job_start a r i ++ jobs_starts args rs i

drop-beyond : {X : Type 0} (n : ℕ) (xs ys : List X) → n ≤ length xs → drop n (xs ++ ys) ≡ drop n xs ++ ys
drop-beyond zero xs ys le = refl
drop-beyond (suc n) [] ys le = absurd (omega (arith, le))
drop-beyond (suc n) (x ∷ xs) ys le = drop-beyond n xs ys (omega (arith, le))

-- what is called at the end of a front comes after the calls of the run
since_more : (template : Template) (first before : Knowledge) (ticket : Option Told) (moment : ℕ) (front : List Entry) (ds : List Call) → HasCalled moment first before → HasAll first before ticket
    → IsPrefix before.front front → entries_of front before.number ≡ before.calls
    → drop (length first.calls) (calls_of template front before.number ++ ds) ≡ calls_since template first ticket ++ ds
since_more template first before None moment front ds called all more own =
    let xs : List Call = calls_of template front before.number in
    let len : length xs ≡ length first.calls = calls-length template front before.number ∙ ap (λ (l : List Entry). length l) (own ∙ all) in
    ap (λ n. drop n (xs ++ ds)) (sym len) ∙ drop-append_seam xs ds
since_more template first before (Some told) moment front ds called all more own =
    let xs : List Call = calls_of template front before.number in
    let long = calls-length template front before.number ∙ ap (λ (l : List Entry). length l) (own ∙ called.calls) ∙ length-append first.calls called.more in
    let p : IsPrefix told.front front = trans told.front before.front front all.1 more in
    let same = calls-stay template before.number told.front front p (own ∙ sym all.0) in
    drop-beyond (length first.calls) xs ds (omega (arith, long))
    ∙ ap (λ l. drop (length first.calls) l ++ ds) (same ∙ ap (calls_of template told.front) called.number)

called_more : (moment : ℕ) (first before after : Knowledge) (more : List Entry) → HasCalled moment first before → after.number ≡ before.number → after.calls ≡ before.calls ++ more → AreAt moment more → HasCalled moment first after
called_more moment first before after more h number calls at = record {
  number = number ∙ h.number;
  more = h.more ++ more;
  calls = calls ∙ ap (λ l. l ++ more) h.calls ∙ append_assoc first.calls h.more more;
  at = All-append (λ (x : Entry). x.moment ≡ moment) h.more more h.at at;
}

module _ (may : Text → ℕ → Answer → Type 0) (run : Run) (begun : List Text) (old new : DriverModel) (driven : HasDriven run begun old) where
  abbrev template : Template
  template = run.template

  abbrev before : Knowledge
  before = old.knows

  abbrev after : Knowledge
  after = new.knows

  abbrev cs : List Call
  cs = calls_of_driver run old

  -- operations were entered together, as these exits and starts, for which there are these jobs
  driven-applied : (now : Told) (os : List Operation) (rs : List Reply) (notes : List Note) (args : List Text) (jobs : List Child)
      → IsApplied may template run.press before os run.moment after rs now
      → new.ticket ≡ Some now → new.drain.entered ≡ old.drain.entered ++ notes
      → AreDriven (answered os rs) → starts_in (answered os rs) ≡ args → exits_in (answered os rs) ≡ exits notes → jobs_made (answered os rs) notes ≡ jobs
      → (old.tally ≡ tally_of cs → new.tally ≡ tally_of (cs ++ answered os rs))
      → HasDispatched old.jobs new.jobs jobs
      → HasDriven run (begun ++ args) new
  driven-applied now os rs notes args jobs h ticket entered are_driven starts exit made count account =
      let ds : List Call = answered os rs in
      let f = ap (λ (t : Told). t.front) h.told_is in
      let since =
      ap (drop (length run.before.calls)) (applied-since may template run.press before after os run.moment rs now h)
      ∙ since_more template run.before before old.ticket run.moment h.front ds driven.called driven.whole h.met.more_front h.met.own in
      let all : calls_of_driver run new ≡ cs ++ ds =
      ap (calls_since template run.before) ticket
      ∙ (λ i. drop (length run.before.calls) (calls_of template (f i) (sym driven.called.number i))) ∙ since in
      record {
        of_press = subst (λ t. IfSome t (λ told. told.press ≡ run.press)) (sym ticket) (ap (λ (t : Told). t.press) h.told_is);
        called = called_more run.moment run.before before after h.entries driven.called (ap (λ (k : Knowledge). k.number) h.after_is) (ap (λ (k : Knowledge). k.calls) h.after_is)
            (entered-at may template before.number run.moment h.front (length before.calls) os h.entries rs h.entered);
        whole = subst (HasAll run.before after) (sym ticket) (ap (λ l. entries_of l after.number) f ∙ applied-own may template run.press before after os run.moment rs now h, ([], append-nil now.front ∙ f));
        driven = subst AreDriven (sym all) (driven-append cs ds driven.driven are_driven);
        starts = ap starts_in all ∙ starts-append cs ds ∙ (λ i. driven.starts i ++ starts i);
        exits_are = ap exits_in all ∙ exits_in-append cs ds ∙ (λ i. driven.exits_are i ++ exit i) ∙ sym (exits-append old.drain.entered notes) ∙ ap exits (sym entered);
        counts = count driven.counts ∙ ap tally_of (sym all);
        jobs = λ h.
            let a = account h in
            let b = driven.jobs h in
            let c = (λ i. weigh h (jobs_made (all i) (entered i))) ∙ ap (weigh h) (jobs_made-append cs ds old.drain.entered notes driven.exits_are) ∙ weigh-append h (jobs_made cs old.drain.entered) (jobs_made ds notes) in
            let d = ap (weigh h) made in
            omega (arith, a, b, c, d);
      }

  -- nothing was entered
  pub driven-stays : IsPrefix before.front after.front → HasNotCalled before after → new.ticket ≡ old.ticket → new.drain.entered ≡ old.drain.entered → new.tally ≡ old.tally
      → ((h : Child → ℕ) → weigh h new.jobs.put + weigh h new.jobs.kept ≡ weigh h old.jobs.put + weigh h old.jobs.kept)
      → HasDriven run begun new
  driven-stays more none ticket entered tally account =
      let all : calls_of_driver run new ≡ cs = ap (calls_since template run.before) ticket in
      record {
        of_press = subst (λ t. IfSome t (λ told. told.press ≡ run.press)) (sym ticket) driven.of_press;
        called = called_more run.moment run.before before after [] driven.called none.1 (none.0 ∙ sym (append-nil before.calls)) (λ k d within. absurd (omega (arith, within)));
        whole = subst (HasAll run.before after) (sym ticket) (stays old.ticket driven.whole);
        driven = subst AreDriven (sym all) driven.driven;
        starts = ap starts_in all ∙ driven.starts;
        exits_are = ap exits_in all ∙ driven.exits_are ∙ ap exits (sym entered);
        counts = tally ∙ driven.counts ∙ ap tally_of (sym all);
        jobs = λ h.
            let a = account h in
            let b = driven.jobs h in
            let c : weigh h (jobs_made (calls_of_driver run new) new.drain.entered) ≡ weigh h (jobs_made cs old.drain.entered) = λ i. weigh h (jobs_made (all i) (entered i)) in
            omega (arith, a, b, c);
      }
    where
      stays : (ticket : Option Told) → HasAll run.before before ticket → HasAll run.before after ticket
      stays None h = none.0 ∙ h
      stays (Some told) h = ((λ i. entries_of told.front (none.1 i)) ∙ h.0 ∙ sym none.0, trans told.front before.front after.front h.1 more)

  -- what a drain entered, or nothing
  pub driven-drained : (told : Option Told) (pairs : List (Note × Reply)) → IsPrefix before.front after.front → IsEntered may template run.press before after run.moment pairs told
      → new.ticket ≡ option_or told old.ticket → new.drain.entered ≡ old.drain.entered ++ notes_of pairs → new.tally ≡ with_replies old.tally true (replies_of pairs) → HasDispatched old.jobs new.jobs (restarted_jobs pairs)
      → HasDriven run begun new
  driven-drained None pairs more h ticket entered t account =
      driven-stays more (h.1, h.2) ticket (entered ∙ ap (λ l. old.drain.entered ++ notes_of l) h.0 ∙ append-nil old.drain.entered) (t ∙ ap (λ l. with_replies old.tally true (replies_of l)) h.0)
      (λ w. let a = account w in let c = ap (λ l. weigh w (restarted_jobs l)) h.0 in omega (arith, a, c))
  driven-drained (Some now) pairs more h ticket entered t account =
      subst (λ l. HasDriven run l new) (append-nil begun)
      (driven-applied now (exits (notes_of pairs)) (replies_of pairs) (notes_of pairs) [] (restarted_jobs pairs) h ticket entered
      (driven_exits pairs) (starts_exits pairs) (exits_exits pairs) (jobs_exits pairs) (λ e. t ∙ tally-exits old.tally cs pairs e) account)

  -- the first of some starts, or none
  pub driven-started : (told : Option Told) (args : List Text) (replies : List Reply) → IsPrefix before.front after.front → HasStarted may template run.press before after run.moment args replies told
      → new.ticket ≡ option_or told old.ticket → new.drain.entered ≡ old.drain.entered → new.tally ≡ with_replies old.tally false replies → HasDispatched old.jobs new.jobs (started_jobs args replies)
      → HasDriven run (begun ++ take (length replies) args) new
  driven-started None args replies more h ticket entered t account =
      subst (λ l. HasDriven run l new) (sym (append-nil begun) ∙ ap (λ (l : List Reply). begun ++ take (length l) args) (sym h.0))
      (driven-stays more h.1 ticket entered (t ∙ ap (with_replies old.tally false) h.0)
      (λ w. let a = account w in let c = ap (λ l. weigh w (started_jobs args l)) h.0 in omega (arith, a, c)))
  driven-started (Some now) args replies more h ticket entered t account =
      driven-applied now (take (length replies) (starts_of args)) replies [] (take (length replies) args) (started_jobs args replies) h.0 ticket (entered ∙ sym (append-nil old.drain.entered))
      (driven_starts args replies) (starts_starts args replies) (exits_starts args replies) (jobs_starts args replies) (λ e. t ∙ tally-starts old.tally cs args replies h.1 e) account

-- a driver that entered nothing
pub driven_begins : (run : Run) (d : DriverModel) → d.knows ≡ run.before → d.ticket ≡ None → d.tally ≡ tally_of [] → d.drain.entered ≡ [] → d.jobs.put ≡ [] → d.jobs.kept ≡ [] → HasDriven run [] d
driven_begins run d knows ticket tally entered put kept =
    let none : calls_of_driver run d ≡ [] = ap (calls_since run.template run.before) ticket in
    record {
      of_press = subst (λ t. IfSome t (λ told. told.press ≡ run.press)) (sym ticket) tt;
      called = record {
        number = ap (λ (k : Knowledge). k.number) knows;
        more = [];
        calls = ap (λ (k : Knowledge). k.calls) knows ∙ sym (append-nil run.before.calls);
        at = λ k e within. absurd (omega (arith, within));
      };
      whole = subst (HasAll run.before d.knows) (sym ticket) (ap (λ (k : Knowledge). k.calls) knows);
      driven = subst AreDriven (sym none) tt;
      starts = ap starts_in none;
      exits_are = ap exits_in none ∙ ap exits (sym entered);
      counts = tally ∙ ap tally_of (sym none);
      jobs = λ h.
          let a = ap (weigh h) put in
          let b = ap (weigh h) kept in
          let c : weigh h (jobs_made (calls_of_driver run d) d.drain.entered) ≡ weigh h (jobs_made [] []) = λ i. weigh h (jobs_made (none i) (entered i)) in
          omega (arith, a, b, c);
    }

-- a driver stays the same over two steps
pub same_trans : (a b c : DriverModel) → IsSameDriver a b → IsSameDriver b c → IsSameDriver a c
same_trans a b c first next = ((next.0.0 ∙ first.0.0, next.0.1 ∙ first.0.1), next.1 ∙ first.1, next.2 ∙ first.2)

pub at_work : (queue : SegId Global) (inbox : TableId) (a b : DriverModel) → IsSameDriver a b → IsAtWork queue inbox a → IsAtWork queue inbox b
at_work queue inbox a b same is = (same.0.0 ∙ is.0, same.1 ∙ is.1)

-- a fault stays one
pub none_before : {F : Type 0} (a b : Option F) (P : Type 0) → (IsSome a → IsSome b) → IfNone a P → IfNone b P
none_before None None P stays h = h
none_before None (Some y) P stays h = tt
none_before (Some x) None P stays h = absurd (cc (stays refl))
none_before (Some x) (Some y) P stays h = tt
