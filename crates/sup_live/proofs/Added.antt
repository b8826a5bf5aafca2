-- The children that a crew made are those whose exits were reported.
use Rattle.std.proofs.Common.{◌≡◌, ℕ, zero, suc, Bool, List, [], ◌∷◌, ◌++◌, length, refl, ap, sym, ◌∙◌, subst, arith, append-nil, Option, Some, None}
use Rattle.std.specs.Prelude.{IfSome}
use Rattle.sup_types.specs.declared.reason.Reason.{Reason}
use Rattle.sup_types.specs.declared.template.Template.{Template}
use Rattle.sup_types.specs.declared.history.Entry.{Entry}
use Rattle.sup_exits.specs.declared.exit.Child.{Child}
use Rattle.sup_exits.specs.declared.exit.Exit.{Exit}
use Rattle.sup_exits.specs.Endings.{AreEndings}
use Rattle.sup_exits.specs.Exits.{children_of, operations_of}
use Rattle.sup_exits.specs.Holdings.{weigh}
use Rattle.sup_exits.specs.WeighLaws.{weigh-append}
use Rattle.sup_exits.specs.Accounts.{capped}
use Rattle.sup_live.specs.Starts.{HasReplies}
use Rattle.sup_live.specs.Totals.{IsAccounted}
use Rattle.sup_live.specs.Leads.{exits_among, told_by, AreExitsEnding, IsLed}
use Rattle.sup_live.specs.Restarts.{number_restarted, numbers_of}
use Rattle.sup_live.specs.Callers.{Used, calls_since}
use Rattle.sup_live.specs.Accounts.{AreStartedAmong, IsToldOf}

operations_length : (xs : List Exit) → length (operations_of xs) ≡ length xs
operations_length [] = refl
operations_length (x ∷ xs) = ap suc (operations_length xs)

children_length : (xs : List Exit) → length (children_of xs) ≡ length xs
children_length [] = refl
children_length (x ∷ xs) = ap suc (children_length xs)

operations_ending : (may_end : Reason → Bool) (exits : List Exit) → AreEndings may_end exits → AreExitsEnding may_end (operations_of exits)
operations_ending may_end [] h k d low = absurd (omega (arith, low))
operations_ending may_end (x ∷ xs) h zero d low = h 0 x (omega arith)
operations_ending may_end (x ∷ xs) h (suc k) d low = operations_ending may_end xs (λ j e less. h (suc j) e (omega (arith, less))) k d (omega (arith, low))

module _ (may_end : Reason → Bool) (calls : List Entry) (paid : List Child) where
  -- as many exits were entered as were paid
  pub counted : (count : ℕ) → IsLed may_end calls paid [] → count ≡ capped (length paid) → count ≡ capped (length (exits_among calls))
  counted count (are, is, endings) n =
      let told = told_by (exits_among calls) paid in
      n ∙ ap capped (ap length is ∙ children_length told ∙ sym (operations_length told) ∙ ap (λ l. length (operations_of l)) (sym (append-nil told)) ∙ ap length (sym are))

  -- with reasons that a crew may tell
  pub entered_ending : IsLed may_end calls paid [] → AreExitsEnding may_end (exits_among calls)
  entered_ending (are, is, endings) =
      let told = told_by (exits_among calls) paid in
      subst (AreExitsEnding may_end) (ap operations_of (sym (append-nil told)) ∙ sym are) (operations_ending may_end told endings)

-- the account of a crew, if there is one: the children that it began again, those that it restarted, and those that clients started
pub told_of : (template : Template) (clients : List Used) (driver : Used) (may_end : Reason → Bool) (all paid entered : List Child) (left : List Exit) (resumed restarted by_clients : List Child) (made : ℕ) (owed : Option ℕ)
    → IfSome owed (λ n. IsAccounted all paid (children_of left) made n) → all ≡ (resumed ++ restarted) ++ by_clients → paid ≡ entered → IsLed may_end (calls_since driver) entered []
    → AreStartedAmong template clients by_clients → HasReplies number_restarted template driver.since driver.knows (numbers_of restarted) → IfSome owed (λ n. IsToldOf template clients driver left made n)
told_of template clients driver may_end all paid entered left resumed restarted by_clients made None account is same led clients_started driver_restarted = account
told_of template clients driver may_end all paid entered left resumed restarted by_clients made (Some owed) account is same (are, were, endings) clients_started driver_restarted =
    let told = told_by (exits_among (calls_since driver)) entered in
    record {
      children = all;
      made_is = account.made_is;
      owes = account.owes;
      owed_is = account.owed_is;
      entered = told;
      entered_is = are ∙ ap operations_of (append-nil told);
      adds_up = λ h. let a = account.adds_up h in let b = ap (weigh h) (same ∙ were) in omega (arith, a, b);
      by_clients = by_clients;
      clients_started = clients_started;
      restarted = restarted;
      driver_restarted = driver_restarted;
      among = λ h.
          let a = ap (weigh h) is in
          let b = weigh-append h (resumed ++ restarted) by_clients in
          let d = weigh-append h resumed restarted in
          let e = weigh-append h by_clients restarted in
          omega (arith, a, b, d, e);
    }
