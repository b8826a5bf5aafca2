-- What a crew did, and the handles of its desk.
use Rattle.std.specs.Prelude.{◌≡◌, ◌⊎◌, ℕ, List, ◌∷◌, ◌++◌, true, [], ◌≤◌, length, map, All, Bool, MatchOption, IfSome, Option, None, Some, Vec, vec_len}
use Rattle.std.specs.List.Sorted.{IsPermutation}
use Rattle.sup_types.specs.declared.reason.Reason.{Reason}
use Rattle.sup_types.specs.declared.template.Template.{Template}
use Rattle.sup_types.specs.declared.history.Entry.{Entry}
use Rattle.sup_desk.specs.Knowledge.{Knowledge}
use Rattle.sup_desk.specs.Books.{IsMade}
use Rattle.sup_desk.specs.Audits.{AreNumbered, AreGrown, HaveSeenAll}
use Rattle.sup_exits.specs.Accounts.{capped}
use Rattle.sup_exits.specs.Endings.{AreEndings}
use Rattle.sup_live.specs.Leads.{exits_among, are_driven, AreExitsEnding}
use Rattle.sup_live.specs.Accounts.{IsToldOf}
use Rattle.sup_live.specs.Callers.{Used, calls_since, knowledge_of}
use Rattle.sup_live.specs.declared.report.CrewReport.{CrewReport}
use Rattle.sup_live.specs.declared.report.RunCaller.{RunCaller}

-- The history is the calls of these callers and nothing else: they are all that were made. Afterwards they are these handles, in the order
-- of making, and each has seen all of it, with its own calls
pub record IsWhole (callers handles : List Knowledge) (history : List Entry) : Type 0 where
  pub sorted : List Knowledge
  pub same : IsPermutation callers sorted
  pub numbered : AreNumbered sorted
  pub grown : AreGrown sorted handles
  pub seen : HaveSeenAll history handles (length handles)
  pub all_made : All (λ entry. IsMade (length handles) entry.handle) history

-- All of these handles are at hand, in some order, and each may have seen more
abbrev pub AreAtHand : List Knowledge → List Knowledge → Type 0
AreAtHand all handles = (sorted : List Knowledge) × IsPermutation all sorted × AreGrown sorted handles

-- a caller, as a report lists it
abbrev pub run_caller : Used → RunCaller
run_caller caller = record { handle = caller.knows.number; since = caller.since }

abbrev pub run_callers : List Used → List RunCaller
run_callers callers = map run_caller callers

-- What the report of a run says. The callers are the driver and the clients: the program's, those of the peers that ran, and those that
-- clients made; others were not used. In the run the driver entered exits, later tries and the stop, and nothing else, and the count is
-- that of its exits. Each exit that it entered, and each that is left, has a reason that a crew may tell. The account, if there is one, is
-- that of the children that were made. There is an answer for each peer. An audit shows that the history is the calls of all of these
-- handles and nothing else, and that they are at hand and none was lost. Without one they are at hand, or lost
pub record IsReport {T U : Type 0} (may_end : Reason → Bool) (template : Template) (peers : ℕ) (handles : List Knowledge) (report : CrewReport T U) : Type 0 where
  pub driver : Used
  pub clients : List Used
  pub idle : List Knowledge
  pub callers : (report.callers.items ≡ run_callers (driver ∷ clients)) ⊎ (1 ≤ report.lost)
  pub driven : are_driven (calls_since driver) ≡ true
  pub counted : report.exits ≡ capped (length (exits_among (calls_since driver)))
  pub endings : AreExitsEnding may_end (exits_among (calls_since driver)) × AreEndings may_end report.left.items
  pub account : IfSome report.owed (λ owed. IsToldOf template clients driver report.left.items report.made owed)
  pub peers_are : vec_len report.peers ≡ peers
  pub audited : MatchOption report.audit ((handles ≡ []) ⊎ AreAtHand (knowledge_of (driver ∷ clients) ++ idle) handles)
      (λ t. (report.lost ≡ 0) × IsWhole (knowledge_of (driver ∷ clients) ++ idle) handles t.front)

-- The same of a run over a desk that the crew made: its handles are named no more
abbrev pub IsCrewReport : {T U : Type 0} → (Reason → Bool) → Template → ℕ → CrewReport T U → Type 0
IsCrewReport may_end template peers report = (handles : List Knowledge) × IsReport may_end template peers handles report

-- how many peers a builder was given
abbrev pub length_of : {U A : Type 0} → Option (Vec U A) → ℕ
length_of None = 0
length_of (Some peers) = vec_len peers
