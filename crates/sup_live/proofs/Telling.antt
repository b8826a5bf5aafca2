-- The exits that are reported, one more, and the account of them all.
use Rattle.std.proofs.Common.{◌≡◌, ℕ, length, List, Option, Some, None, [], ◌∷◌, ◌++◌, refl, ap, sym, ◌∙◌, subst, arith, append_assoc}
use Rattle.std.specs.Prelude.{All, IfSome}
use Rattle.std.proofs.lemmas.List.Elements.{All-push}
use Rattle.sup_exits.specs.declared.exit.Child.{Child}
use Rattle.sup_exits.specs.declared.exit.Exit.{Exit}
use Rattle.sup_exits.specs.Exits.{children_of}
use Rattle.sup_exits.specs.Holdings.{weigh}
use Rattle.sup_exits.specs.WeighLaws.{weigh-append}
use Rattle.sup_exits.specs.Accounts.{Accounted, IsSettled}
use Rattle.sup_live.specs.Totals.{IsAccounted}

pub all_more : {X : Type 0} (P : X → Type 0) (now was : List X) (x : X) → now ≡ was ++ x ∷ [] → All P was → P x → All P now
all_more P now was x n h e = subst (All P) (sym n) (All-push P was x h e)

children_of-append : (xs ys : List Exit) → children_of (xs ++ ys) ≡ children_of xs ++ children_of ys
children_of-append [] ys = refl
children_of-append (x ∷ xs) ys = ap (λ l. x.child ∷ l) (children_of-append xs ys)

-- one exit more is paid, and listed
pub paid_more : (others before paid : List Child) (was now : List Exit) (exit : Exit) → before ≡ others ++ children_of was → paid ≡ before ++ exit.child ∷ [] → now ≡ was ++ exit ∷ [] → paid ≡ others ++ children_of now
paid_more others before paid was now exit b p n =
    p ∙ ap (λ l. l ++ exit.child ∷ []) b ∙ append_assoc others (children_of was) (exit.child ∷ []) ∙ ap (λ l. others ++ l) (sym (children_of-append was (exit ∷ []))) ∙ ap (λ l. others ++ children_of l) (sym n)

-- what the account of all parts tells, if it does
pub accounted : (account : Accounted) (all entered : List Child) (left : List Exit) (made : ℕ) (owed : Option ℕ) → account.made ≡ all → account.paid ≡ entered ++ children_of left
    → IfSome owed (λ n. IsSettled account made n) → IfSome owed (λ n. IsAccounted all entered (children_of left) made n)
accounted account all entered left made None same paid settled = settled
accounted account all entered left made (Some owed) same paid settled =
    record {
      owes = settled.owes;
      made_is = settled.made_is ∙ ap length same;
      owed_is = settled.owed_is;
      adds_up = λ h. let a = settled.adds_up h in let b = ap (weigh h) paid in let d = weigh-append h entered (children_of left) in let e = ap (weigh h) same in omega (arith, a, b, d, e);
    }
