-- Document 01, "How columns are read" and "Values and the one spelling": decimals with a digits before the point and b after.
use Rattle.std.specs.Prelude.{ℕ, ◌+◌, ◌-◌, ◌*◌, ◌/◌, ◌^◌, Bool, cond, not, ◌&&◌, ◌||◌, List, [], ◌∷◌, length, ltb, ℤ, nat_abs, Option, Some, Result, Ok}
use Rattle.columns.specs.Sets.{is}
use Rattle.columns.specs.Texts.{head, tail, ended, blank}
use Rattle.numerals.specs.Numbers.{leading, after, number, number_from, number_of, admits_whole, is_negative, spell_digits}
use Rattle.flaws.specs.declared.Flaw.{Flaw}
use Rattle.numerals.specs.declared.Unread.{Unread}
use Rattle.numerals.specs.Numbers.{no_whole}

-- Behind the point: 1 to b digits, spaces. Read onto what stands before the point, it counts units of the b-th place.
unfoldable pub fraction_of : ℕ → ℕ → List ℕ → Result (Option ℕ) Unread
fraction_of b v t =
    let digits = leading b t in
    cond (not (ended digits) && blank (after b t)) (Ok (Some (number_from v digits * 10 ^ (b - length digits)))) no_whole

-- 0 to a digits, a point, and what stands behind it.
unfoldable pub magnitude_of : ℕ → ℕ → List ℕ → Result (Option ℕ) Unread
magnitude_of a b t =
    let point = after a t in
    cond (is "." (head point)) (fraction_of b (number (leading a t)) (tail point)) no_whole

-- The bytes that a decimal admits.
unfoldable pub admits_decimal : Bool → ℕ → Bool
admits_decimal sign c = admits_whole sign c || is "." c

-- Decimal with a digits before the point and b after.
unfoldable pub decimal_of : ℕ → ℕ → Bool → List ℕ → Result (Option ℤ) Flaw
decimal_of a b sign p = number_of sign (admits_decimal sign) (magnitude_of a b) p

-- v units of the b-th place: a digits, a point, b digits.
unfoldable pub spell_magnitude : ℕ → ℕ → ℕ → List ℕ
spell_magnitude a b v = spell_digits a (v / 10 ^ b) (46 ∷ spell_digits b v [])

-- How many columns a decimal has.
abbrev pub decimal_width : ℕ → ℕ → Bool → ℕ
decimal_width a b sign = cond sign 1 0 + a + 1 + b

-- A decimal: where the field is signed, minus in the sign column, a space there otherwise.
unfoldable pub spell_decimal : ℕ → ℕ → Bool → ℤ → List ℕ
spell_decimal a b sign z =
    cond sign
    (cond (is_negative z) 45 32 ∷ spell_magnitude a b (nat_abs z))
    (spell_magnitude a b (nat_abs z))

-- A decimal's digits and its sign have their places.
abbrev pub decimal_fits : ℕ → ℕ → Bool → ℤ → Bool
decimal_fits a b sign z = ltb (nat_abs z) (10 ^ (a + b)) && (sign || not (is_negative z))
