-- Document 02, wish 13: lowest and highest of an entry, said as the station's table says ranges: a bound that there is not is not asked, and one that holds either
-- way is asked once.
use Rattle.std.specs.Prelude.{ℕ, ◌-◌, Bool, true, cond, ◌&&◌, ltb, leb, eqb, ℤ, nat_abs}
use Rattle.numerals.specs.Numbers.{is_negative}

-- The highest of an entry that has none: no number of 64 bits is above it.
abbrev pub unbounded : ℕ
unbounded = 18446744073709551615

-- A number from the lowest to the highest.
abbrev pub from_to : ℕ → ℕ → ℕ → Bool
from_to low high n =
    cond (eqb low 0)
    (cond (eqb high unbounded) true (leb n high))
    (cond (eqb high unbounded) (ltb (low - 1) n) (leb low n && leb n high))

-- A number with a sign: the lowest is so far below zero.
abbrev pub either_side : ℕ → ℕ → ℤ → Bool
either_side low high z =
    cond (eqb low high)
    (cond (eqb high unbounded) true (leb (nat_abs z) high))
    (leb (nat_abs z) (cond (is_negative z) low high))

abbrev pub span : Bool → ℕ → ℕ → ℤ → Bool
span sign low high z = cond sign (either_side low high z) (from_to low high (nat_abs z))
