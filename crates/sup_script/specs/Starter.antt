-- What the start function of scripts answers.
use Rattle.std.specs.Prelude.{ℕ, ◌==◌, ◌^◌, List, Bool, ◌&&◌, nat_eq, nat_le, nat_lt, drop, codes, if◌then◌else◌}
use Rattle.std.specs.List.{starts_with, before_first, after_first}
use Rattle.std.specs.Str.{bytes_eq}
use Rattle.std.specs.Str.Parse.{digits_value}
use Rattle.std.specs.Fmt.{decimal}
use Rattle.sup_types.specs.declared.history.Answer.{Answer}
use Rattle.sup_types.specs.declared.history.Answer.TheVariants as answer

-- whether a word is a number: the digits of its value, with no leading zero, below 2^64
abbrev pub is_number : List ℕ → Bool
is_number word = nat_lt (digits_value 10 word) (2 ^ 64) && bytes_eq word (decimal (digits_value 10 word))

-- whether both words are numbers, between which the moment is
abbrev pub is_within : List ℕ → List ℕ → ℕ → Bool
is_within from to moment =
    is_number from && is_number to && nat_le (digits_value 10 from) moment && nat_lt moment (digits_value 10 to)

-- whether an argument is `gap:A:B` of two numbers between which the moment is
abbrev pub is_gap_at : List ℕ → ℕ → Bool
is_gap_at argument moment =
    starts_with nat_eq argument (codes "gap:") && is_within (before_first (λ b. b == 58) (drop 4 argument)) (after_first (λ b. b == 58) (drop 4 argument)) moment

abbrev pub script_answer : List ℕ → ℕ → Answer
script_answer argument moment =
    if bytes_eq argument (codes "ignore")
    then answer.Ignore
    else (if bytes_eq argument (codes "fail") then answer.Failed 1 else (if is_gap_at argument moment then answer.Failed 1 else answer.Running))
