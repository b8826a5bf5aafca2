use Rattle.std.proofs.Common.{◌≡◌, ◌+◌, ℕ, List, ◌++◌, ◌∷◌, [], length, take, refl, ap, sym, ◌∙◌, subst, arith, append-nil, append_assoc, length-append, get_or, ◌<◌}
use Rattle.std.proofs.lemmas.List.{nil_from_length}
use Rattle.sup_types.specs.declared.history.Operation.{Operation}
use Rattle.sup_types.specs.declared.history.Reply.{Reply}
use Rattle.sup_types.specs.declared.history.Entry.{Entry}
use Rattle.sup_core.specs.Account.{reply_after}
use Rattle.sup_desk.specs.Books.{Written, with_pending}
use Rattle.sup_desk.specs.Batches.{AreEntered}
use Rattle.sup_desk.specs.Knowledge.{Knowledge, entries_of, IsEntryOf}
use Rattle.sup_desk.specs.BatchLaws.{entered-push, entered-entries, entered-replies, next_of}
use Rattle.sup_desk.specs.EntryLaws.{entries_le}
use Rattle.sup_desk.proofs.laws.write_all.Goals as goal

pub queue-init : goal.queue-init
queue-init g c =
    let first : Written = c.args.transaction.now in
    let replies : List Reply = c.args.replies.now.items in
    let operations : List Operation = c.args.operations.now.items in
    let none : length replies ≡ 0 = omega (arith, c.args.replies.now.ok.0, c.requires.none) in
    let empty : [] ≡ replies = sym (nil_from_length replies none) in
    let before : List Entry = first.published ++ first.pending in
    let serial : ℕ = length (entries_of before c.args.caller.now.number) in
    record {
      written = (
        [],
        subst (λ (l : List Reply). AreEntered g.S.Starter.may_answer g.N.Name.template c.args.caller.now.number c.args.moment before serial (take (length l) operations) [] l) empty (refl, refl),
        λ i. record { editions = first.editions; published = first.published; pending = sym (append-nil first.pending) i; made = first.made; handles = first.handles; fault = first.fault },
      );
      within = omega (arith, none);
      short = omega (arith, length-append first.published first.pending, ap length c.requires.clean, c.requires.within);
      room = refl;
    }

pub overflow_add-serial : goal.overflow_add-serial
overflow_add-serial g c =
    let first : Written = c.args.transaction.now in
    let old = c.queue.invariant in
    let number : ℕ = c.args.caller.now.number in
    let replies : List Reply = c.queue.replies.items in
    let operations : List Operation = take (length replies) c.args.operations.now.items in
    let before : List Entry = first.published ++ first.pending in
    let serial : ℕ = length (entries_of before number) in
    let entries : List Entry = old.written.0 in
    omega (
      arith,
      c.count.ensures,
      ap (λ (k : Knowledge). length k.calls) c.caller.view_is,
      c.len-in-Some.ensures,
      c.queue.replies.ok.0,
      ap length c.requires.met,
      entries_le number first.published,
      entered-entries g.S.Starter.may_answer g.N.Name.template number c.args.moment before serial operations entries replies old.written.1,
      entered-replies g.S.Starter.may_answer g.N.Name.template number c.args.moment before serial operations entries replies old.written.1,
      ap (λ (w : Written). length (w.published ++ w.pending)) old.written.2,
      length-append first.published (first.pending ++ entries),
      length-append first.pending entries,
      old.short,
      g.N.Name.template.in_range.6,
    )

pub queue-preserved : goal.queue-preserved
queue-preserved g c =
    let first : Written = c.args.transaction.now in
    let old = c.queue.invariant in
    let may = g.S.Starter.may_answer in
    let template = g.N.Name.template in
    let number : ℕ = c.args.caller.now.number in
    let replies : List Reply = c.queue.replies.items in
    let operations : List Operation = c.args.operations.now.items in
    let now : Written = c.queue.transaction in
    let k : ℕ = length replies in
    let op : Operation = c.in-Some.operation.now in
    let here : c.len.result ≡ k = omega (arith, c.len.ensures, c.queue.replies.ok.0) in
    let low : k < length operations = grind (arith, here, c.in-Some.ensures.variant, c.args.operations.now.ok) in
    let next = next_of k operations op low (c.in-Some.ensures.lookup ∙ ap (λ (i : ℕ). get_or operations i op) here) in
    let pushed = c.push_reserved.ensures in
    let long : length c.push_reserved.new.self.items ≡ k + 1 = ap length pushed.items ∙ length-append replies (c.in-Ok.reply ∷ []) in
    let taken : take (length c.push_reserved.new.self.items) operations ≡ take k operations ++ op ∷ [] = ap (λ (i : ℕ). take i operations) long ∙ next in
    let before : List Entry = first.published ++ first.pending in
    let serial : ℕ = length (entries_of before number) in
    let entries : List Entry = old.written.0 in
    let entered : AreEntered may template number c.args.moment before serial (take k operations) entries replies = old.written.1 in
    let is : now ≡ with_pending first entries = old.written.2 in
    let all : now.published ++ now.pending ≡ before ++ entries =
    ap (λ (w : Written). w.published ++ w.pending) is ∙ sym (append_assoc first.published first.pending entries) in
    let calls : serial ≡ length c.args.caller.now.calls =
    ap (λ (l : List Entry). length (entries_of (first.published ++ l) number)) c.requires.clean
    ∙ ap (λ (l : List Entry). length (entries_of l number)) (append-nil first.published) ∙ ap length c.requires.met in
    let sum : ℕ = c.count.result + c.len-in-Some.result in
    let count : sum ≡ serial + length entries =
    omega (
      arith,
      calls,
      c.count.ensures,
      ap (λ (k : Knowledge). length k.calls) c.caller.view_is,
      c.len-in-Some.ensures,
      c.queue.replies.ok.0,
      entered-entries may template number c.args.moment before serial (take k operations) entries replies entered,
      entered-replies may template number c.args.moment before serial (take k operations) entries replies entered,
    ) in
    let written = c.in-Ok.ensures.written in
    let entry : Entry = written.0 in
    let made : IsEntryOf may template (before ++ entries) number (serial + length entries) op c.args.moment entry =
    subst (λ (n : ℕ). IsEntryOf may template (before ++ entries) number n op c.args.moment entry) count
    (subst (λ (l : List Entry). IsEntryOf may template l number sum op c.args.moment entry) all
    (subst (λ (n : ℕ). IsEntryOf may template (now.published ++ now.pending) n sum op c.args.moment entry) c.number.ensures written.1)) in
    let told : c.in-Ok.reply ≡ reply_after template (before ++ entries) entry = written.2 ∙ ap (λ l. reply_after template l entry) all in
    let more = entered-push may template number c.args.moment before serial (take k operations) entries replies op entry c.in-Ok.reply entered made told in
    record {
      written = (
        entries ++ entry ∷ [],
        subst (λ (l : List Operation). AreEntered may template number c.args.moment before serial l (entries ++ entry ∷ []) c.push_reserved.new.self.items) (sym taken)
            (subst (λ (l : List Reply). AreEntered may template number c.args.moment before serial (take k operations ++ op ∷ []) (entries ++ entry ∷ []) l) (sym pushed.items) more),
        written.3 ∙ ap (λ (w : Written). with_pending w (entry ∷ [])) is
            ∙ (λ i. record { editions = first.editions; published = first.published; pending = append_assoc first.pending entries (entry ∷ []) i; made = first.made; handles = first.handles; fault = first.fault }),
      );
      within = omega (arith, long, low);
      short = omega (
        arith,
        ap (λ (w : Written). length (w.published ++ w.pending)) written.3,
        length-append now.published (now.pending ++ entry ∷ []),
        length-append now.pending (entry ∷ []),
        length-append now.published now.pending,
        c.in-Ok.ensures.room,
      );
      room = pushed.capacity ∙ old.room;
    }
