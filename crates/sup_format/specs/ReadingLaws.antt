-- How the reading of a text continues.
use Rattle.std.proofs.Common.{◌≡◌, ℕ, ◌+◌, ◌<◌, ◌≤◌, List, ◌++◌, length, take, drop, sym, ap, ◌∙◌, arith}
use Rattle.std.proofs.lemmas.List.{length-drop, length-take-le, take-append-drop, take-take}

-- more bytes came than there is room for
pub cut_parts : (buf : List ℕ) (count room : ℕ) → room < count → take count buf ≡ take room buf ++ drop room (take count buf)
cut_parts buf count room over =
    sym (take-append-drop room (take count buf)) ∙ ap (λ (l : List ℕ). l ++ drop room (take count buf)) (take-take room count buf (omega arith))

pub cut_past : (buf : List ℕ) (count room : ℕ) → room < count → count ≤ length buf → 0 < length (drop room (take count buf))
cut_past buf count room over inside = omega (arith, length-drop room (take count buf), length-take-le count buf inside)

-- one call of the reader more, where each before it gave a byte
pub calls_more : (calls given new : ℕ) → calls ≤ given → given ≤ 16777216 → new ≡ calls + 1 → new ≤ 16777217
calls_more calls given new each short same = omega arith
