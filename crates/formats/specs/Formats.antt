-- The formats of decimals as the code names them. Nothing is meant here that the tables of fields do not say.
use Rattle.std.specs.Prelude.{ℕ, Bool, true, false, List, ℤ, Option, Result}
use Rattle.decimals.specs.Decimals.{decimal_of, decimal_width, decimal_fits, spell_decimal}
use Rattle.formats.specs.declared.Format.{Format}
use Rattle.formats.specs.declared.Format.TheVariants as format
use Rattle.flaws.specs.declared.Flaw.{Flaw}

-- The five formats: 1A and 1Y 5/5, 8B1 signed 3/1, 9A 3/1, 9B signed 2/1, 9G 2/1. Digits before the point,
abbrev pub digits_before : Format → ℕ
digits_before format.Frequency = 5
digits_before format.Power = 3
digits_before format.Azimuth = 3
digits_before format.Elevation = 2
digits_before format.Gain = 2

-- digits after it,
abbrev pub digits_after : Format → ℕ
digits_after format.Frequency = 5
digits_after format.Power = 1
digits_after format.Azimuth = 1
digits_after format.Elevation = 1
digits_after format.Gain = 1

-- and whether a sign may stand.
abbrev pub may_sign : Format → Bool
may_sign format.Frequency = false
may_sign format.Power = true
may_sign format.Azimuth = false
may_sign format.Elevation = true
may_sign format.Gain = false

-- A decimal of a format: what its columns say,
abbrev pub format_of : Format → List ℕ → Result (Option ℤ) Flaw
format_of f p = decimal_of (digits_before f) (digits_after f) (may_sign f) p

-- its width,
abbrev pub format_width : Format → ℕ
format_width f = decimal_width (digits_before f) (digits_after f) (may_sign f)

-- the numbers that it can spell,
abbrev pub format_fits : Format → ℤ → Bool
format_fits f z = decimal_fits (digits_before f) (digits_after f) (may_sign f) z

-- and their spelling.
abbrev pub spell_format : Format → ℤ → List ℕ
spell_format f z = spell_decimal (digits_before f) (digits_after f) (may_sign f) z
