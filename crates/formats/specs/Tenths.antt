-- Document 01: 8B1, 9A, 9B and 9G, decimals that count tenths, each blank or filled. Over the digit counts a and b, the sign and the range.
use Rattle.std.specs.Prelude.{is_some, ℕ, Bool, true, ◌&&◌, List, replicate, leb, ℤ, nat_abs, Option, Some, None, Result}
use Rattle.std.specs.Result.{result_unwrap_or}
use Rattle.numerals.specs.Numbers.{passes}
use Rattle.decimals.specs.Decimals.{decimal_of, decimal_fits, decimal_width, spell_decimal}
use Rattle.flaws.specs.declared.Flaw.{Flaw}

-- Any number that the digits can say.
abbrev pub any_number : ℤ → Bool
any_number z = true

-- At most n units from zero.
abbrev pub up_to : ℕ → ℤ → Bool
up_to n z = leb (nat_abs z) n

-- The answer as a typed value; what cannot be read is never taken for a number.
abbrev pub in_tenths : Result (Option ℤ) Flaw → Option ℤ
in_tenths v = result_unwrap_or v None

-- The rule on the columns,
unfoldable pub tenths_good : ℕ → ℕ → Bool → (ℤ → Bool) → List ℕ → Bool
tenths_good a b sign range p = passes range (decimal_of a b sign p)

-- the value that they say,
unfoldable pub tenths_of : ℕ → ℕ → Bool → List ℕ → Option ℤ
tenths_of a b sign p = in_tenths (decimal_of a b sign p)

-- the rule on a typed value,
unfoldable pub tenths_fit : ℕ → ℕ → Bool → (ℤ → Bool) → Option ℤ → Bool
tenths_fit a b sign range None = true
tenths_fit a b sign range (Some z) = decimal_fits a b sign z && range z

-- and its spelling.
unfoldable pub spell_tenths : ℕ → ℕ → Bool → Option ℤ → List ℕ
spell_tenths a b sign None = replicate (decimal_width a b sign) 32
spell_tenths a b sign (Some z) = spell_decimal a b sign z

-- The value is filled.
abbrev pub has_tenths : Option ℤ → Bool
has_tenths v = is_some v
