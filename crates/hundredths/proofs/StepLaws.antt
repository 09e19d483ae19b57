-- A frequency that can stand has room in hundredths of a hertz.
use mathlib.Core.Path.{◌≡◌}
use mathlib.Core.Bool.{true, false}
use Prim.Native.Nat.{ℕ, ◌*◌, ◌^◌, ◌<◌}
use native.Mathlib.Omega.{arith}
use lib.Dec.{ltb}
use lib.IntN.{pos}
use borrow.Author.Tests.{ltb-true}
use Rattle.columns.proofs.TextLaws.{and_split}
use Rattle.decimals.specs.Decimals.{decimal_fits}
use Rattle.frequencies.specs.Frequencies.{above_zero, frequency_fits}
use Rattle.frequencies.specs.declared.Hertz.{Hertz}
use Rattle.frequencies.specs.declared.Hertz.TheVariants as hertz
use Rattle.frequencies.specs.declared.Frequency.{Frequency}
use Rattle.hundredths.specs.Hundredths.{step_of, hundredths_of}
use Rattle.std.specs.Prelude.{Option, Some, None}

-- A frequency that has its places is one of ten digits at most.
pub fits_below : (f : Frequency) → frequency_fits (Some f) ≡ true → f.amount < 10 ^ 10
unfolding frequency_fits
fits_below f e =
    let h = and_split (decimal_fits 5 5 false (pos f.amount)) (above_zero (pos f.amount)) e in
    ltb-true f.amount (10 ^ 10) (and_split (ltb f.amount (10 ^ 10)) true h.0).0

-- Such a frequency in hundredths of a hertz has sixteen digits at most,
step_below : (n : ℕ) (u : Hertz) → n < 10 ^ 10 → n * step_of u < 10 ^ 16
unfolding step_of
step_below n hertz.Kilo h = omega arith
step_below n hertz.Mega h = omega arith
step_below n hertz.Giga h = omega arith

pub hundredths_below : (v : Option Frequency) → frequency_fits v ≡ true → (m : ℕ) → hundredths_of v ≡ Some m → m < 10 ^ 16
unfolding hundredths_of
hundredths_below None fits m e = absurd (let z : ◌≡◌ {A = ℕ} 0 1 = cc in omega arith)
hundredths_below (Some f) fits m e =
    let same : f.amount * step_of f.unit ≡ m = cc in
    omega (arith, step_below f.amount f.unit (fits_below f fits), same)

-- and is a number of 64 bits.
pub step_fits : (n : ℕ) (u : Hertz) → n < 10 ^ 10 → n * step_of u < 2 ^ 64
step_fits n u h = omega (arith, step_below n u h)
