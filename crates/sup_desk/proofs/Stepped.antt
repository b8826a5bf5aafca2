-- A press that has stepped all that is pending.
use Rattle.std.proofs.Common.{◌≡◌, List, [], ◌∷◌, ◌++◌, ◌+◌, length, Some, slice_get, refl, ap, sym, ◌∙◌}
use Rattle.std.proofs.lemmas.List.{take_at}
use Rattle.sup_types.specs.declared.history.Entry.{Entry}
use Rattle.sup_log.specs.Tokens.{Record, so_far}

-- with one entry more, which is not stepped
abbrev pub with : Record → Entry → Record
with r entry = record { press = r.press; template = r.template; editions = r.editions; published = r.published; pending = r.pending ++ entry ∷ []; stepped = r.stepped; is_out = r.is_out }

pub but_the_last : (r : Record) (entry : Entry) → r.stepped ≡ length r.pending → so_far (with r entry) ≡ r.published ++ r.pending
but_the_last r entry is = ap (λ l. r.published ++ l) (take_at r.pending (entry ∷ []) r.stepped (sym is))

at_end : (before : List Entry) (entry : Entry) → slice_get (before ++ entry ∷ []) (length before) ≡ Some entry
at_end [] entry = refl
at_end (x ∷ xs) entry = at_end xs entry

pub the_last : (r : Record) (entry : Entry) → r.stepped ≡ length r.pending → slice_get (r.pending ++ entry ∷ []) r.stepped ≡ Some entry
the_last r entry is = ap (slice_get (r.pending ++ entry ∷ [])) is ∙ at_end r.pending entry

-- one more is stepped
abbrev pub stepped : Record → Record
stepped r = record { press = r.press; template = r.template; editions = r.editions; published = r.published; pending = r.pending; stepped = r.stepped + 1; is_out = r.is_out }
