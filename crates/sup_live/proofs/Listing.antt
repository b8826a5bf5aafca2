-- The callers of a run, as they are listed one by one.
use Rattle.std.proofs.Common.{◌≡◌, ℕ, ◌+◌, ◌<◌, Bool, true, false, List, [], ◌∷◌, ◌++◌, length, take, get_or, ap, sym, ◌∙◌, subst, ◌⊎◌, inl, inr, Option, Some, None}
use Rattle.std.specs.Prelude.{if◌then◌else◌, IfSome, MatchOption}
use Rattle.std.proofs.lemmas.List.{map-append}
use Rattle.sup_types.specs.declared.history.Entry.{Entry}
use Rattle.sup_desk.specs.Knowledge.{Knowledge}
use Rattle.sup_desk.specs.BatchLaws.{next_of}
use Rattle.sup_types.specs.declared.template.Template.{Template}
use Rattle.sup_exits.specs.declared.exit.Child.{Child}
use Rattle.sup_live.specs.declared.report.RunCaller.{RunCaller}
use Rattle.sup_live.specs.Callers.{Used}
use Rattle.sup_live.specs.Starts.{HasStarted}
use Rattle.sup_live.specs.Accounts.{AreStartedAmong}
use Rattle.sup_live.specs.Wholes.{run_caller, run_callers, AreAtHand, IsWhole}
use Rattle.sup_live.proofs.Joining.{one_client_more, one_lost}

-- one caller more is listed
pub told_more : (first : Used) (was now : List RunCaller) (all : List Used) (k : ℕ) (c : Used) → k < length all → c ≡ get_or all k c → was ≡ run_callers (first ∷ take k all) → now ≡ was ++ run_caller c ∷ []
    → now ≡ run_callers (first ∷ take (k + 1) all)
told_more first was now all k c low is w n =
    n ∙ ap (λ l. l ++ run_caller c ∷ []) w ∙ sym (map-append run_caller (first ∷ take k all) (c ∷ [])) ∙ ap (λ l. run_callers (first ∷ l)) (sym (next_of k all c low is))

-- a client left, and its caller was listed or lost
pub left_more : (b : Bool) (template : Template) (was now : List Used) (c : Used) (children own : List Child) → now ≡ (if b then was ++ c ∷ [] else was)
    → AreStartedAmong template was children → HasStarted template c.since c.knows own → AreStartedAmong template now (children ++ own)
left_more true template was now c children own is started by = subst (λ l. AreStartedAmong template l (children ++ own)) (sym is) (one_client_more template was c children own started by)
left_more false template was now c children own is started by = subst (λ l. AreStartedAmong template l (children ++ own)) (sym is) (one_lost template was children own started)

-- what an audit of these handles told, if there was memory for their list
pub audit_told : {A H : Type 0} (items : H → List Knowledge) (front : A → List Entry) (audit : Option A) (all : Option H) (wanted handles : List Knowledge) (lost : ℕ) → IfSome all (λ h. items h ≡ wanted)
    → MatchOption audit (MatchOption all (handles ≡ []) (λ h. AreAtHand (items h) handles)) (λ t. (lost ≡ 0) × MatchOption all ⊥ (λ h. IsWhole (items h) handles (front t)))
    → MatchOption audit ((handles ≡ []) ⊎ AreAtHand wanted handles) (λ t. (lost ≡ 0) × IsWhole wanted handles (front t))
audit_told items front None None wanted handles lost is told = inl told
audit_told items front None (Some h) wanted handles lost is told = inr (subst (λ l. AreAtHand l handles) is told)
audit_told items front (Some t) None wanted handles lost is told = absurd told.1
audit_told items front (Some t) (Some h) wanted handles lost is told = (told.0, subst (λ l. IsWhole l handles (front t)) is told.1)
