-- The children that clients started, as the clients leave one by one.
use Rattle.std.proofs.Common.{◌≡◌, ℕ, ◌+◌, List, [], ◌∷◌, ◌++◌, ap, arith}
use Rattle.std.specs.Prelude.{All}
use Rattle.std.proofs.lemmas.List.Elements.{All-nil, All-cons, All-head, All-tail}
use mathlib.Core.List.{IsPrefix}
use Rattle.sup_types.specs.declared.template.Template.{Template}
use Rattle.sup_types.specs.declared.history.Entry.{Entry}
use Rattle.sup_desk.specs.Knowledge.{entries_of}
use Rattle.sup_exits.specs.declared.exit.Child.{Child}
use Rattle.sup_exits.specs.Holdings.{weigh}
use Rattle.sup_exits.specs.WeighLaws.{weigh-append}
use Rattle.sup_live.specs.Callers.{Used}
use Rattle.sup_live.specs.Starts.{HasStarted, replies_since, child_started}
use Rattle.sup_live.specs.Accounts.{AreStartedAmong, started_by}

-- what one client did is among what it and the others did
started_by-weigh : (h : Child → ℕ) (template : Template) (front : List Entry) (cs : List Used) (c : Used)
    → weigh h (started_by template front (cs ++ c ∷ [])) ≡ weigh h (started_by template front cs) + weigh h (replies_since child_started template c.since front c.knows.number)
started_by-weigh h template front [] c =
    let own = replies_since child_started template c.since front c.knows.number in
    let a = weigh-append h own [] in omega (arith, a)
started_by-weigh h template front (d ∷ cs) c =
    let theirs = replies_since child_started template d.since front d.knows.number in
    let r = started_by-weigh h template front cs c in
    let a = weigh-append h theirs (started_by template front (cs ++ c ∷ [])) in
    let b = weigh-append h theirs (started_by template front cs) in
    omega (arith, r, a, b)

module _ {X : Type 0} (P : X → Type 0) where
  all_left : (xs : List X) (x : X) → All P (xs ++ x ∷ []) → All P xs
  all_left [] x h = All-nil P
  all_left (y ∷ ys) x h = All-cons P y ys (All-head P y (ys ++ x ∷ []) h) (all_left ys x (All-tail P y (ys ++ x ∷ []) h))

  last_holds : (xs : List X) (x : X) → All P (xs ++ x ∷ []) → P x
  last_holds [] x h = All-head P x [] h
  last_holds (y ∷ ys) x h = last_holds ys x (All-tail P y (ys ++ x ∷ []) h)

-- one client more
pub one_client_more : (template : Template) (cs : List Used) (c : Used) (children own : List Child)
    → AreStartedAmong template cs children → HasStarted template c.since c.knows own → AreStartedAmong template (cs ++ c ∷ []) (children ++ own)
one_client_more template cs c children own started by front seen h =
    let P = λ (k : Used). IsPrefix k.knows.front front × (entries_of front k.knows.number ≡ k.knows.calls) in
    let last = last_holds P cs c seen in
    let theirs = started front (all_left P cs c seen) h in
    let mine = ap (weigh h) (by front last.0 last.1) in
    let all = started_by-weigh h template front cs c in
    let a = weigh-append h children own in
    omega (arith, theirs, mine, all, a)

-- children more, of a client that was lost
pub one_lost : (template : Template) (cs : List Used) (children own : List Child) → AreStartedAmong template cs children → AreStartedAmong template cs (children ++ own)
one_lost template cs children own started front seen h =
    let theirs = started front seen h in
    let a = weigh-append h children own in
    omega (arith, theirs, a)

-- no client
pub no_client : (template : Template) (children : List Child) → AreStartedAmong template [] children
no_client template children front seen h = omega arith
