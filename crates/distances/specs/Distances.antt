-- Document 01: the radius 4D in kilometres, and the heights 4Z above sea and 9Y above ground in metres.
use Rattle.std.specs.Prelude.{option_map, is_some, ℕ, Bool, true, cond, not, ◌&&◌, List, replicate, leb, ℤ, pos, nat_abs, Option, Some, None, Result}
use Rattle.std.specs.Result.{result_unwrap_or}
use Rattle.numerals.specs.Numbers.{whole_of, amount, signed_of, passes, is_negative, whole_fits, spell_whole, spell_signed}
use Rattle.distances.specs.declared.Kilometres.{Kilometres}
use Rattle.distances.specs.declared.Metres.{Metres}
use Rattle.flaws.specs.declared.Flaw.{Flaw}

-- 4D: the value that the columns say,
unfoldable pub radius_of : List ℕ → Kilometres
radius_of p = record { 0 = amount (whole_of p) }

-- the rule on a typed value,
unfoldable pub radius_fits : Kilometres → Bool
radius_fits r = whole_fits 5 r.0

-- and its spelling.
unfoldable pub spell_radius : Kilometres → List ℕ
spell_radius r = spell_whole 5 r.0

-- 9Y: the value that the columns say,
unfoldable pub ground_of : List ℕ → Metres
ground_of p = record { 0 = pos (amount (whole_of p)) }

-- the rule on a typed value,
unfoldable pub ground_fits : Metres → Bool
ground_fits m = not (is_negative m.0) && whole_fits 4 (nat_abs m.0)

-- and its spelling.
unfoldable pub spell_ground : Metres → List ℕ
spell_ground m = spell_whole 4 (nat_abs m.0)

-- 4Z: -999 to 9999.
abbrev pub height_range : ℤ → Bool
height_range z = leb (nat_abs z) (cond (is_negative z) 999 9999)

-- The answer as a typed value; what cannot be read is never taken for a number.
abbrev pub in_metres : Result (Option ℤ) Flaw → Option Metres
in_metres v = option_map (λ z. record { 0 = z }) (result_unwrap_or v None)

-- The rule on the columns,
unfoldable pub height_good : List ℕ → Bool
height_good p = passes height_range (signed_of p)

-- the value that they say,
unfoldable pub height_of : List ℕ → Option Metres
height_of p = in_metres (signed_of p)

-- the rule on a typed value,
unfoldable pub height_fits : Option Metres → Bool
height_fits None = true
height_fits (Some m) = height_range m.0

-- and its spelling: below zero minus and three digits, else four digits.
unfoldable pub spell_height : Option Metres → List ℕ
spell_height None = replicate 4 32
spell_height (Some m) = spell_signed 4 m.0

-- The height is filled.
abbrev pub has_height : Option Metres → Bool
has_height v = is_some v
