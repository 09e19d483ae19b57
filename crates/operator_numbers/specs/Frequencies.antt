-- Document 02, wish 9: frequencies as people read them. A text is the list of its bytes.
use Rattle.std.specs.Prelude.{ℕ, zero, suc, ◌/◌, ◌%◌, cond, List, [], ◌++◌, ltb, eqb, Option, Some, None}
use Rattle.columns.specs.Texts.{bytes}
use Rattle.numerals.specs.Numbers.{spell_whole}
use Rattle.operator_numbers.specs.declared.Fraction.{Fraction}

-- How many digits a number has, where they are k + 1 at most.
unfoldable pub digits_in : ℕ → ℕ → ℕ
digits_in zero v = 1
digits_in (suc k) v = cond (ltb v 10) 1 (suc (digits_in k (v / 10)))

-- A number of twenty digits at most, in plain decimal.
unfoldable pub in_digits : ℕ → List ℕ
in_digits v = spell_whole (digits_in 19 v) v

-- A fraction of k + 1 places without the zeros that end it; one digit stays.
unfoldable pub shortened : ℕ → ℕ → Fraction
shortened zero f = record { places = 1; digits = f }
shortened (suc k) f = cond (eqb (f % 10) 0) (shortened k (f / 10)) (record { places = suc (suc k); digits = f })

-- How many hundredths of a hertz a megahertz has, eight places behind the point.
abbrev pub per_megahertz : ℕ
per_megahertz = 100000000

-- The digits of a fraction, each in its place.
abbrev pub spell_fraction : Fraction → List ℕ
spell_fraction f = spell_whole f.places f.digits

-- A frequency in megahertz: `893.2`.
unfoldable pub megahertz : ℕ → List ℕ
megahertz v = in_digits (v / per_megahertz) ++ (bytes "." ++ spell_fraction (shortened 7 (v % per_megahertz)))

-- The lowest or the highest frequency with the words before it, in hundredths of a hertz and in megahertz: ` lowest 89320000000 893.2 MHz`;
-- nothing where there is none.
unfoldable pub extreme_text : List ℕ → Option ℕ → List ℕ
extreme_text label None = []
extreme_text label (Some v) = label ++ (in_digits v ++ (bytes " " ++ (megahertz v ++ bytes " MHz")))
