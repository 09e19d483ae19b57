-- Where a field keeps its rule, its value is filled exactly where its columns are not blank.
use mathlib.Core.Path.{◌≡◌, refl, ◌∙◌}
use mathlib.Core.Bool.{Bool, true, false, cond, not, false≢true}
use mathlib.Core.List.{List}
use Prim.Native.Nat.{ℕ}
use lib.IntN.{ℤ}
use Rattle.columns.specs.Texts.{skip, blank}
use Rattle.flaws.specs.Flaws.{unread}
use Rattle.flaws.specs.declared.Flaw.{Flaw}
use Rattle.numerals.specs.Numbers.{in_sign, admits_whole, has_minus, unsigned, number_of, passes, whole_digits, signed_of}
use Rattle.decimals.specs.Decimals.{magnitude_of, admits_decimal, decimal_of}
use Rattle.frequencies.specs.Frequencies.{above_zero, amount_good, in_unit, frequency_of, has_frequency}
use Rattle.formats.specs.Tenths.{in_tenths, tenths_good, tenths_of, has_tenths}
use Rattle.distances.specs.Distances.{height_range, in_metres, height_good, height_of, has_height}
use Rattle.frequencies.specs.declared.Hertz.{Hertz}
use Rattle.std.specs.Prelude.{Option, Some, None, Result, Ok, Err}
use Rattle.numerals.specs.declared.Unread.{Unread}

-- a number was read
abbrev given : Result (Option ℤ) Flaw → Bool
given (Err wrong) = false
given (Ok None) = false
given (Ok (Some z)) = true

number-given : (sign : Bool) (S : ℕ → Bool) (d : List ℕ → Result (Option ℕ) Unread) (p : List ℕ) (test : ℤ → Bool) → passes test (number_of sign S d p) ≡ true → given (number_of sign S d p) ≡ not (blank p)
number-given sign S d p test e = by (unread S p) (blank p) (has_minus sign (skip p)) (d (unsigned sign (skip p))) e where
  by : (wrong : Flaw) (b minus : Bool) (w : Result (Option ℕ) Unread) → passes test (cond b (Ok None) (in_sign wrong minus w)) ≡ true → given (cond b (Ok None) (in_sign wrong minus w)) ≡ not b
  by wrong true minus w e = refl
  by wrong false minus (Err bad) e = absurd (false≢true e)
  by wrong false minus (Ok None) e = absurd (false≢true e)
  by wrong false minus (Ok (Some v)) e = refl

-- 1A and 1Y
pub frequency_given : (p q : List ℕ) → amount_good p ≡ true → has_frequency (frequency_of p q) ≡ not (blank p)
unfolding amount_good frequency_of decimal_of
frequency_given p q e = by (number_of false (admits_decimal false) (magnitude_of 5 5) p) _ ∙ number-given false (admits_decimal false) (magnitude_of 5 5) p above_zero e where
  by : (x : Result (Option ℤ) Flaw) (u : Hertz) → has_frequency (in_unit x u) ≡ given x
  by (Err wrong) u = refl
  by (Ok None) u = refl
  by (Ok (Some z)) u = refl

-- 8B1, 9A, 9B and 9G
pub tenths_given : (a b : ℕ) (sign : Bool) (range : ℤ → Bool) (p : List ℕ) → tenths_good a b sign range p ≡ true → has_tenths (tenths_of a b sign p) ≡ not (blank p)
unfolding tenths_good tenths_of decimal_of
tenths_given a b sign range p e = by (number_of sign (admits_decimal sign) (magnitude_of a b) p) ∙ number-given sign (admits_decimal sign) (magnitude_of a b) p range e where
  by : (x : Result (Option ℤ) Flaw) → has_tenths (in_tenths x) ≡ given x
  by (Err wrong) = refl
  by (Ok None) = refl
  by (Ok (Some z)) = refl

-- 4Z
pub height_given : (p : List ℕ) → height_good p ≡ true → has_height (height_of p) ≡ not (blank p)
unfolding height_good height_of signed_of
height_given p e = by (number_of true (admits_whole true) whole_digits p) ∙ number-given true (admits_whole true) whole_digits p height_range e where
  by : (x : Result (Option ℤ) Flaw) → has_height (in_metres x) ≡ given x
  by (Err wrong) = refl
  by (Ok None) = refl
  by (Ok (Some z)) = refl
