use Rattle.std.proofs.Common.{rules, IfNone, inr}
use Rattle.std.specs.declared.option.Option.{Option}
use Rattle.std.specs.declared.option.Option.TheVariants.{None, Some}
use Rattle.sup_desk.proofs.handle.HandleOf+N+Desk+N+S+R+J.apply_all.Goals as goal

pub returns-in-Err-clause-nothing : goal.returns-in-Err-clause-nothing
returns-in-Err-clause-nothing g c = none_then c.in-Err.field-0.ticket (λ p. (p.0, p.1, p.2)) c.in-Err.ensures.nothing
  where
    none_then : {T P Q : Type 0} (ticket : Option T) → (P → Q) → IfNone ticket P → IfNone ticket Q
    none_then None f p = f p
    none_then (Some t) f p = p

pub returns-in-Err-clause-journal : goal.returns-in-Err-clause-journal
returns-in-Err-clause-journal g c = λ f is. let told = c.in-Err.ensures.journal f is in (told.0, told.2)

pub returns-in_default-clause-gone : goal.returns-in_default-clause-gone
returns-in_default-clause-gone g c = search rules

pub returns-in-Err-clause-room : goal.returns-in-Err-clause-room
returns-in-Err-clause-room g c = λ is. inr (c.in-Err.ensures.room is)
