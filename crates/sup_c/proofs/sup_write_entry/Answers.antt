-- The line that was made is that of the entry, and fills the front of the room.
use Rattle.std.proofs.Common.{rules, ◌≡◌, ◌++◌, [], List, ℕ, drop, false, subst, ap, ◌∙◌}
use Rattle.std.specs.Prelude.{is_err}
use Rattle.sup_types.specs.declared.history.Entry.{Entry}
use Rattle.sup_format.specs.Writing.HistoryTexts.{entry_line, SpellsOneMore}
use Rattle.sup_c.specs.Spelled.{spelled_entry}
use Rattle.sup_c.specs.Answers.{IsWritten}
use Rattle.sup_c.proofs.Written.{ok_from}
use Rattle.sup_c.proofs.sup_write_entry.Goals as goal

pub returns-clause-written : goal.returns-clause-written
returns-clause-written c = λ done.
    let e = c.in-Some.entry in
    let same : e ≡ spelled_entry c.args.entry.now = search rules in
    let granted : is_err c.append_entry.result ≡ false = search rules in
    let empty : c.new-line.result.items ≡ [] = search rules in
    let text : c.append_entry.new.text.items ≡ c.new-line.result.items ++ entry_line e =
    ok_from (c.append_entry.new.text.items ≡ c.new-line.result.items ++ entry_line e) c.append_entry.result granted c.append_entry.ensures.text in
    let line : c.append_entry.new.text.items ≡ entry_line e = text ∙ ap (λ (l : List ℕ). l ++ entry_line e) empty in
    let room = c.args.to.now in
    let after = c.copy_from_slice.new.self ++ drop c.len-2.result room in
    let written : IsWritten c.append_entry.new.text.items room after c.len-3.result = record { bytes = search rules; len_is = search rules } in
    let more : SpellsOneMore (entry_line e) e = ok_from (SpellsOneMore (entry_line e) e) c.append_entry.result granted c.append_entry.ensures.spelled in (
      subst (λ (x : Entry). IsWritten (entry_line x) room after c.len-3.result) same (subst (λ (l : List ℕ). IsWritten l room after c.len-3.result) line written),
      subst (λ (x : Entry). SpellsOneMore (entry_line x) x) same more,
    )
