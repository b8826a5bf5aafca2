-- Reading a whole text.
use Rattle.std.proofs.Common.{◌≡◌, ℕ, ◌+◌, ◌<◌, ◌≤◌, List, ◌++◌, length, take, drop, Option, Err, sym, ap, subst, ◌∙◌, append_assoc, arith}
use Rattle.std.specs.Io.KnownBytes.{Consumes}
use Rattle.std.proofs.KnownBytes.{Consumes-trans}
use Rattle.std.proofs.lemmas.List.{length-append, length-take-le}
use Rattle.sup_format.specs.declared.fault.Fault.TheVariants as fault
use Rattle.sup_format.specs.Reading.Texts.{IsRead}
use Rattle.sup_format.specs.ReadingLaws.{cut_parts, cut_past}

-- more bytes came than there is room for
pub read_too_long : (remaining left left' : Option (List ℕ)) (text buf text' : List ℕ) (given count room : ℕ) → Consumes remaining left text → given ≡ length text → room + given ≡ 16777216 → room < count → count ≤ length buf → text' ≡ text ++ take room buf
    → Consumes left left' (take count buf) → IsRead remaining left' text' (Err fault.TooLong)
read_too_long remaining left left' text buf text' given count room took given_is most over inside grown more =
    let piece = take room buf in
    let past = drop room (take count buf) in
    let kept : length piece ≡ room = length-take-le room buf (omega arith) in
    let len : length text' ≡ 16777216 = ap length grown ∙ length-append text piece ∙ omega arith in
    let whole : text ++ take count buf ≡ text' ++ past = ap (λ (l : List ℕ). text ++ l) (cut_parts buf count room over) ∙ sym (append_assoc text piece past) ∙ ap (λ (l : List ℕ). l ++ past) (sym grown) in
    record {
      past = past;
      short = omega (arith, len);
      took = subst (Consumes remaining left') whole (Consumes-trans remaining left left' text (take count buf) took more);
      ended = (cut_past buf count room over inside, len);
    }
