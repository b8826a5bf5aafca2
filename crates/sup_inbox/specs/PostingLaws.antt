-- A row of posters, and what is known once all were gathered in.
use Rattle.std.proofs.Common.{◌≡◌, ℕ, zero, suc, ◌+◌, List, [], ◌∷◌, ◌++◌, length, map, refl, sym, ap, ◌∙◌, subst, arith, append-nil, append_assoc}
use Rattle.std.specs.Prelude.{All, slice_index_or}
use Rattle.std.specs.List.{Any, Contains}
use Rattle.atomic_table.specs.Seated.{TableId}
use Rattle.sup_inbox.specs.declared.note.Note.{Note}
use Rattle.sup_inbox.specs.declared.rule.Sent.{Sent}
use Rattle.sup_inbox.specs.declared.rule.View.{View}
use Rattle.sup_inbox.specs.Delivery.{from, taker_view, gathered, AreSent, IsSettled}
use Rattle.sup_inbox.specs.Ends.{Posting, AreFrom, AreNew, AreOf, sent_of, IsBy, IsPosted}
use Rattle.sup_inbox.specs.NoteLaws.{all_by, by_from, contains_from}

pub are_from-snoc : (id : TableId) (first : ℕ) (ps : List Posting) (p : Posting) → AreFrom id first ps → p.inbox ≡ id → p.number ≡ first + length ps → AreFrom id first (ps ++ p ∷ [])
are_from-snoc id first [] p h i n = (i, n ∙ omega arith, tt)
are_from-snoc id first (q ∷ ps) p h i n = (h.0, h.1, are_from-snoc id (suc first) ps p h.2 i (n ∙ omega arith))

pub are_new-snoc : (ps : List Posting) (p : Posting) → AreNew ps → p.posted ≡ [] → AreNew (ps ++ p ∷ [])
are_new-snoc [] p h e = (e, tt)
are_new-snoc (q ∷ ps) p h e = (h.0, are_new-snoc ps p h.1 e)

pub are_of : (id : TableId) (first : ℕ) (ps : List Posting) → AreFrom id first ps → AreOf id ps
are_of id first [] h = tt
are_of id first (p ∷ ps) h = (h.0, are_of id (suc first) ps h.2)

pub are_of-snoc : (id : TableId) (ps : List Posting) (p : Posting) → AreOf id ps → p.inbox ≡ id → AreOf id (ps ++ p ∷ [])
are_of-snoc id [] p h i = (i, tt)
are_of-snoc id (q ∷ ps) p h i = (h.0, are_of-snoc id ps p h.1 i)

each_sent : (ps : List Posting) (notes : List Note) → AreSent notes (map sent_of ps) → All (λ (p : Posting). from notes p.number ≡ p.posted) ps
each_sent [] notes h k d low = absurd (omega arith)
each_sent (p ∷ ps) notes h zero d low = h.0
each_sent (p ∷ ps) notes h (suc k) d low = each_sent ps notes h.1 k d (omega arith)

pub each_settled : (ps : List Posting) (notes : List Note) → IsSettled (taker_view (length ps) notes (map sent_of ps)) [] → All (λ (p : Posting). from notes p.number ≡ p.posted) ps
each_settled ps notes s = each_sent ps notes (subst (λ l. AreSent l (map sent_of ps)) (append-nil notes) s.each)

pub others_settled : (n : ℕ) (notes : List Note) (gs : List Sent) → IsSettled (taker_view n notes gs) [] → All (IsBy n) notes
others_settled n notes gs s =
    let e = sym (append-nil notes) in
    all_by n notes (by_from n notes (ap (λ l. from l 0) e ∙ s.none) (λ w low. ap (λ l. from l w) e ∙ s.later w low))

any_sent : (ps : List Posting) (w : ℕ) → Any (λ s. s.poster ≡ w) (map sent_of ps) → Any (λ p. p.number ≡ w) ps
any_sent [] w (k, s, low, is, e) = absurd (omega (arith, low))
any_sent (p ∷ ps) w (zero, s, low, is, e) = (0, p, omega arith, refl, ap (λ (x : Sent). x.poster) is ∙ e)
any_sent (p ∷ ps) w (suc k, s, low, is, e) = let m = any_sent ps w (k, s, omega (arith, low), is, e) in (suc m.0, m.1, omega (arith, m.2), m.3, m.4)

-- each note is one that a poster posted
pub every_settled : (ps : List Posting) (notes : List Note) → IsSettled (taker_view (length ps) notes (map sent_of ps)) [] → All (IsPosted ps) notes
every_settled ps notes s k d low =
    let note = slice_index_or notes k d in
    let by = others_settled (length ps) notes (map sent_of ps) s k d low in
    let m = any_sent ps note.poster (s.members note.poster by.0 by.1) in
    let each = each_settled ps notes s m.0 m.1 m.2 in
    let posted : from notes note.poster ≡ m.1.posted = ap (from notes) (sym m.4) ∙ subst (λ (p : Posting). from notes p.number ≡ p.posted) m.3 each in
    (m.0, m.1, m.2, m.3, subst (λ (l : List Note). Contains l note) posted (contains_from notes k d low))

pub gathers : (made : ℕ) (taken : List Note) (v u w : View) → v ≡ taker_view made taken v.gathered → w ≡ gathered v u → w ≡ taker_view made taken w.gathered
gathers made taken v u w e f = f ∙ (λ i. taker_view (ap (λ (x : View). x.made) e i) (ap (λ (x : View). x.taken) e i) (sym (ap (λ (x : View). x.gathered) f) i))

pub next_rows : (id : TableId) (p : Posting) (old rest : List Posting) → old ≡ p ∷ rest → AreOf id old → AreOf id rest
next_rows id p old rest steps rows = (subst (AreOf id) steps rows).1

pub next_lists : (v u w : View) (p : Posting) (old rest : List Posting) → w ≡ gathered v u → old ≡ p ∷ rest → u.poster ≡ p.number → u.posted ≡ p.posted → w.gathered ++ map sent_of rest ≡ v.gathered ++ map sent_of old
next_lists v u w p old rest f steps number same =
    ap (λ (x : View). x.gathered ++ map sent_of rest) f
    ∙ append_assoc v.gathered (record { poster = u.poster; notes = u.posted } ∷ []) (map sent_of rest)
    ∙ (λ i. v.gathered ++ record { poster = number i; notes = same i } ∷ map sent_of rest)
    ∙ ap (λ l. v.gathered ++ map sent_of l) (sym steps)

-- the same, of a view whose parts are known
pub settled_at : (v : View) (made n : ℕ) (was taken left : List Note) (gs : List Sent) → v ≡ taker_view made was gs → made ≡ n → was ≡ taken
    → IsSettled (taker_view v.made (v.taken ++ left) v.gathered) [] → IsSettled (taker_view n (taken ++ left) gs) []
settled_at v made n was taken left gs e m t s =
    subst (λ (x : View). IsSettled x []) (λ i. taker_view ((ap (λ (y : View). y.made) e ∙ m) i) ((ap (λ (y : View). y.taken) e ∙ t) i ++ left) (ap (λ (y : View). y.gathered) e i)) s
