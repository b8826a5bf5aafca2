-- What each call appends, after what those before it appended: the lines of the format.
use Rattle.std.proofs.Common.{◌≡◌, ◌∙◌, ℕ, List, [], ◌∷◌, ◌++◌, sym, ap, subst, append_assoc, codes}
use Rattle.std.specs.Prelude.{decimal}
use Rattle.std.specs.List.{flat_map, join_with_byte}
use Rattle.std.proofs.KnownBytes.{Appends-trans}
use Rattle.std.specs.Io.KnownBytes.{Appends}
use Rattle.sup_load.specs.Lines.{Fields, line_with, named}
use Rattle.sup_load.proofs.load.write_lines.Goals as goal

-- what follows the first field of a line, and then more
after : Fields → List ℕ → List ℕ
after [] more = 10 ∷ more
after (f ∷ fs) more = named (32 ∷ (f.0 ++ 32 ∷ [])) f.1 ++ after fs more

by_field : (f : List ℕ × ℕ) (fs : Fields) (more : List ℕ) → line_with (f ∷ fs) ++ more ≡ named (f.0 ++ 32 ∷ []) f.1 ++ after fs more
unfolding after
by_field f [] more =
    append_assoc (f.0 ++ 32 ∷ decimal f.1) (10 ∷ []) more ∙ ap (λ (l : List ℕ). l ++ 10 ∷ more) (sym (append_assoc f.0 (32 ∷ []) (decimal f.1)))
by_field f (g ∷ fs) more =
    let first : List ℕ = f.0 ++ 32 ∷ decimal f.1 in
    let others : List ℕ = join_with_byte 32 (flat_map (λ (h : List ℕ × ℕ). h.0 ∷ decimal h.1 ∷ []) (g ∷ fs)) in
    ap (λ (l : List ℕ). (l ++ 10 ∷ []) ++ more) (sym (append_assoc f.0 (32 ∷ decimal f.1) (32 ∷ others)))
    ∙ (ap (λ (l : List ℕ). l ++ more) (append_assoc first (32 ∷ others) (10 ∷ []))
    ∙ (append_assoc first (32 ∷ (others ++ 10 ∷ [])) more
    ∙ (ap (λ (l : List ℕ). first ++ 32 ∷ l) (by_field g fs more)
    ∙ ap (λ (l : List ℕ). l ++ after (g ∷ fs) more) (sym (append_assoc f.0 (32 ∷ []) (decimal f.1))))))

pub returns-clause-lines : goal.returns-clause-lines
unfolding after
returns-clause-lines g c =
    let sums = c.args.sums.now in
    let bytes7 : List ℕ = codes "\n" in
    let bytes6 : List ℕ = named (codes "\nreads ") sums.reads ++ bytes7 in
    let bytes5 : List ℕ = named (codes " held ") sums.held ++ bytes6 in
    let bytes4 : List ℕ = named (codes " left ") sums.left ++ bytes5 in
    let bytes3 : List ℕ = named (codes " gave_up ") sums.tally.given_up ++ bytes4 in
    let bytes2 : List ℕ = named (codes " restarts ") sums.tally.restarts ++ bytes3 in
    let bytes1 : List ℕ = named (codes " strays ") sums.tally.strays ++ bytes2 in
    let bytes0 : List ℕ = named (codes " exits ") sums.tally.exits ++ bytes1 in
    let held = g.W.Write.contents in
    let end = held c.write_text.new.out.writer in
    subst (Appends (held c.args.out.now.writer) end)
    (sym (by_field (codes "made", sums.tally.made) ((codes "exits", sums.tally.exits) ∷ (codes "strays", sums.tally.strays) ∷ (codes "restarts", sums.tally.restarts)
    ∷ (codes "gave_up", sums.tally.given_up) ∷ (codes "left", sums.left) ∷ (codes "held", sums.held) ∷ []) (line_with ((codes "reads", sums.reads) ∷ []))))
    (Appends-trans (held c.args.out.now.writer) (held c.write_number.new.out.writer) end (named (codes "made ") sums.tally.made) bytes0 c.in_ok-write_number.ensures.lines
    (Appends-trans (held c.write_number.new.out.writer) (held c.write_number-2.new.out.writer) end (named (codes " exits ") sums.tally.exits) bytes1 c.in_ok-write_number-2.ensures.lines
    (Appends-trans (held c.write_number-2.new.out.writer) (held c.write_number-3.new.out.writer) end (named (codes " strays ") sums.tally.strays) bytes2 c.in_ok-write_number-3.ensures.lines
    (Appends-trans (held c.write_number-3.new.out.writer) (held c.write_number-4.new.out.writer) end (named (codes " restarts ") sums.tally.restarts) bytes3 c.in_ok-write_number-4.ensures.lines
    (Appends-trans (held c.write_number-4.new.out.writer) (held c.write_number-5.new.out.writer) end (named (codes " gave_up ") sums.tally.given_up) bytes4 c.in_ok-write_number-5.ensures.lines
    (Appends-trans (held c.write_number-5.new.out.writer) (held c.write_number-6.new.out.writer) end (named (codes " left ") sums.left) bytes5 c.in_ok-write_number-6.ensures.lines
    (Appends-trans (held c.write_number-6.new.out.writer) (held c.write_number-7.new.out.writer) end (named (codes " held ") sums.held) bytes6 c.in_ok-write_number-7.ensures.lines
    (Appends-trans (held c.write_number-7.new.out.writer) (held c.write_number-8.new.out.writer) end (named (codes "\nreads ") sums.reads) bytes7 c.in_ok-write_number-8.ensures.lines
    c.in_ok-write_text.ensures.lines))))))))
