-- Document 02, wish 6: a UIC vehicle number, and what its last digit has to be.
use Rattle.std.specs.Prelude.{ℕ, ◌+◌, ◌-◌, ◌*◌, ◌/◌, ◌%◌, Bool, true, false, not, ◌&&◌, List, [], ◌∷◌, take, get_or, eqb, Err}
use Rattle.columns.specs.Sets.{is_digit}
use Rattle.columns.specs.Texts.{every, sized}
use Rattle.basics.specs.Outcomes.{Test, when}
use Rattle.basics.specs.declared.Refusal.TheVariants as why

-- How many digits a vehicle number has.
abbrev pub number_digits : ℕ
number_digits = 12

-- A digit, or, where its turn is to be doubled, the digits of twice that digit added up.
abbrev pub weighed : Bool → ℕ → ℕ
weighed true d = 2 * d / 10 + 2 * d % 10
weighed false d = d

-- The sum over digits of which every second one is doubled.
unfoldable pub sum_from : Bool → List ℕ → ℕ
sum_from doubles [] = 0
sum_from doubles (d ∷ ds) = weighed doubles d + sum_from (not doubles) ds

-- The sum over digits of which the first, the third and so on are doubled.
abbrev pub digit_sum : List ℕ → ℕ
digit_sum ds = sum_from true ds

-- The digits that bytes are.
abbrev pub digits_of : List ℕ → List ℕ
digits_of [] = []
digits_of (c ∷ t) = (c - 48) ∷ digits_of t

-- Twelve digits.
unfoldable pub is_number : List ℕ → Bool
is_number t = sized number_digits t && every is_digit t

-- The twelfth digit brings the sum over the first eleven to a multiple of ten.
unfoldable pub last_right : List ℕ → Bool
last_right t = let ds = digits_of t in eqb ((digit_sum (take (number_digits - 1) ds) + get_or ds (number_digits - 1) 0) % 10) 0

-- What is asked of a number: 14 where it has not twelve digits, 15 where its last one is wrong.
abbrev pub number_tests : List ℕ → List Test
number_tests t = when (not (is_number t)) (Err why.NotTwelveDigits) ∷ when (not (last_right t)) (Err why.LastDigitWrong) ∷ []
