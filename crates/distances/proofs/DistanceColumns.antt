-- The radius and the heights are kinds of column.
use mathlib.Core.Path.{◌≡◌, refl, ap, ◌∙◌}
use mathlib.Core.Bool.{true, not, false≢true}
use mathlib.Core.List.{List, []}
use Prim.Native.Nat.{ℕ, suc, ◌^◌}
use native.Mathlib.Omega.{arith}
use lib.ListN.{length, replicate}
use lib.IntN.{ℤ, pos, negsuc, nat_abs}
use borrow.Author.Tests.{lt-ltb, leb-true}
use Rattle.numerals.specs.Numbers.{whole_digits, whole_of, amount, whole_filled, passes, signed_of, is_negative, whole_fits, signed_fits, spell_whole, spell_signed, admits_whole}
use Rattle.columns.proofs.TextLaws.{and_split}
use Rattle.numerals.proofs.RoundTrip.{spelled_length, signed_trip}
use Rattle.columns.proofs.ColumnLaws.{Column}
use Rattle.numerals.proofs.WholeColumn.{number_of_spaces, whole_column}
use Rattle.distances.specs.Distances.{radius_of, radius_fits, spell_radius, ground_of, ground_fits, spell_ground, height_range, in_metres, height_good, height_of, height_fits, spell_height}
use Rattle.std.specs.Prelude.{Option, Some, None, Result, Ok, Err}
use Rattle.distances.specs.declared.Metres.{Metres}
use Rattle.flaws.specs.declared.Flaw.{Flaw}

-- ---- 4D and 9Y: whole numbers with a unit of measure

five : Column 5 (λ p. whole_filled (whole_of p)) (λ p. amount (whole_of p)) (whole_fits 5) (spell_whole 5)
five = whole_column 5 (omega arith) (omega arith)

pub radius_column : Column 5 (λ p. whole_filled (whole_of p)) radius_of radius_fits spell_radius
unfolding radius_of radius_fits spell_radius
radius_column = record {
  wide = λ v e. five.wide v.0 e;
  kept = λ v e. five.kept v.0 e;
  back = λ v e. ap (λ (n : ℕ). record { 0 = n }) (five.back v.0 e);
  read = λ p l e. five.read p l e;
}

four : Column 4 (λ p. whole_filled (whole_of p)) (λ p. amount (whole_of p)) (whole_fits 4) (spell_whole 4)
four = whole_column 4 (omega arith) (omega arith)

-- a number that is not below zero is its magnitude
not_negative : (z : ℤ) → not (is_negative z) ≡ true → pos (nat_abs z) ≡ z
not_negative (pos n) e = refl
not_negative (negsuc n) e = absurd (false≢true e)

pub ground_column : Column 4 (λ p. whole_filled (whole_of p)) ground_of ground_fits spell_ground
unfolding ground_of ground_fits spell_ground
ground_column = record {
  wide = λ v e. four.wide (nat_abs v.0) (and_split (not (is_negative v.0)) (whole_fits 4 (nat_abs v.0)) e).1;
  kept = λ v e. four.kept (nat_abs v.0) (and_split (not (is_negative v.0)) (whole_fits 4 (nat_abs v.0)) e).1;
  back = λ v e.
      let h = and_split (not (is_negative v.0)) (whole_fits 4 (nat_abs v.0)) e in
      ap (λ (z : ℤ). record { 0 = z }) (ap pos (four.back (nat_abs v.0) h.1) ∙ not_negative v.0 h.0);
  read = λ p l e. four.read p l e;
}

-- ---- 4Z: a height above sea, with a sign

-- its range is what four columns can spell
pub height_places : (z : ℤ) → height_range z ≡ true → signed_fits 4 z ≡ true
unfolding signed_fits
height_places (pos n) e = lt-ltb n (10 ^ 4) (omega (arith, leb-true n 9999 e))
height_places (negsuc n) e = lt-ltb (suc n) (10 ^ 3) (omega (arith, leb-true (suc n) 999 e))

spaces_no_height : signed_of (replicate 4 32) ≡ Ok None
unfolding signed_of
spaces_no_height = number_of_spaces true (admits_whole true) whole_digits 4

height_trip : (z : ℤ) → height_range z ≡ true → signed_of (spell_signed 4 z) ≡ Ok (Some z)
height_trip z e = signed_trip 4 z (omega arith) (height_places z e)

height_wide : (v : Option Metres) → length (spell_height v) ≡ 4
unfolding spell_height spell_signed
height_wide None = refl
height_wide (Some m) = by m.0 where
  by : (z : ℤ) → length (spell_signed 4 z) ≡ 4
  by (pos n) = spelled_length 4 n []
  by (negsuc n) = ap suc (spelled_length 3 (suc n) [])

height_kept : (v : Option Metres) → height_fits v ≡ true → height_good (spell_height v) ≡ true
unfolding spell_height height_good height_fits
height_kept None e = rw spaces_no_height
height_kept (Some m) e = rw (height_trip m.0 e) e

height_back : (v : Option Metres) → height_fits v ≡ true → height_of (spell_height v) ≡ v
unfolding spell_height height_of height_fits
height_back None e = rw spaces_no_height
height_back (Some m) e = rw (height_trip m.0 e)

height_read : (p : List ℕ) → height_good p ≡ true → height_fits (height_of p) ≡ true
unfolding height_good height_of height_fits
height_read p e = by (signed_of p) e where
  by : (d : Result (Option ℤ) Flaw) → passes height_range d ≡ true → height_fits (in_metres d) ≡ true
  by (Err wrong) e = absurd (false≢true e)
  by (Ok None) e = refl
  by (Ok (Some z)) e = e

pub height_column : Column 4 height_good height_of height_fits spell_height
height_column = record { wide = λ v e. height_wide v; kept = height_kept; back = height_back; read = λ p l e. height_read p e }
