use Rattle.std.proofs.Common.{◌≡◌, ◌+◌, get_or, take, ◌∙◌, arith, ap, subst, sym}
use Rattle.std.specs.Fmt.{decimal}
use Rattle.std.specs.Int.{IsInRange}
use Rattle.std.specs.Str.Parse.{digits_value, AllDigits}
use Rattle.std.proofs.lemmas.List.{take_all}
use Rattle.std.proofs.lemmas.Bool.Decides.{nat_tests}
use Rattle.sup_format.proofs.Reading.Numbers.{is_number, empty_is_none, leading_zero_is_none, other_byte_is_none, too_large_is_none, value_more, digits_and_one}
use Rattle.sup_format.proofs.read.words.read_number.Goals as goal
use Rattle.sup_format.proofs.read.words.read_number.Goals.{else-word-eq48-via-then-word-eq48+else-word-gt1, else-word-eq48-via-else-word-eq48}

pub returns-then-is_empty : goal.returns-then-is_empty
returns-then-is_empty c = empty_is_none c.args.word.now (grind (arith, nat_tests))

pub returns-then-word-gt1 : goal.returns-then-word-gt1
returns-then-word-gt1 c = leading_zero_is_none c.args.word.now c.if-word-eq48.true c.if-word-gt1.true

pub returns-then-not-is_ascii_digit : goal.returns-then-not-is_ascii_digit
returns-then-not-is_ascii_digit c = other_byte_is_none c.args.word.now c.loop-byte.byte-index c.loop-byte-test.true (λ inside. grind arith)

pub returns-in_err-checked_mul : goal.returns-in_err-checked_mul
returns-in_err-checked_mul c =
    let word = c.args.word.now in
    let i = c.loop-byte.byte-index in
    let digit : IsInRange 48 57 (get_or word i 0) = c.if-not-is_ascii_digit.ensures.cases in
    let more = value_more word i c.loop-byte-test.true digit in
    rw c.from_residual.ensures (too_large_is_none word (i + 1) (omega (arith, more)))

pub returns-in_err-value : goal.returns-in_err-value
returns-in_err-value c =
    let word = c.args.word.now in
    let i = c.loop-byte.byte-index in
    let digit : IsInRange 48 57 (get_or word i 0) = c.if-not-is_ascii_digit.ensures.cases in
    let more = value_more word i c.loop-byte-test.true digit in
    rw c.from_residual-in_err-value.ensures (too_large_is_none word (i + 1) (omega (arith, more)))

pub loop-byte-preserved : goal.loop-byte-preserved
loop-byte-preserved c =
    let word = c.args.word.now in
    let i = c.loop-byte.byte-index in
    let digit : IsInRange 48 57 (get_or word i 0) = c.if-not-is_ascii_digit.ensures.cases in
    let more = value_more word i c.loop-byte-test.true digit in
    record { digits = digits_and_one word i c.loop-byte-test.true digit c.loop-byte.invariant.digits; so_far = omega (arith, more, c.in_ok-value.ensures, c.in_ok-checked_mul.ensures); fits = omega (arith, c.in_ok-value.ensures) }

pub returns : goal.returns
returns c =
    let word = c.args.word.now in
    let whole : take c.loop-byte.byte-index word ≡ word = take_all _ word c.loop-byte-test.false in
    let value : c.loop-byte.value ≡ digits_value 10 word = c.loop-byte.invariant.so_far ∙ ap (digits_value 10) whole in
    let fits = c.loop-byte.invariant.fits in
    let plain = is_number word (subst (AllDigits 10) whole c.loop-byte.invariant.digits) (grind (arith, nat_tests)) (λ zero_first. elim c.else-word-eq48.branch [ else-word-eq48-via-then-word-eq48+else-word-gt1 w ↦ grind (arith, nat_tests) | else-word-eq48-via-else-word-eq48 w ↦ absurd (w.if-word-eq48.false zero_first) ]) (omega (arith, value, fits)) in
    (fits, plain ∙ ap decimal (sym value))
