-- The formats of decimals.
use Prim.Native.Nat.{◌+◌, ◌≤◌}
use native.Mathlib.Omega.{arith}
use Rattle.formats.specs.Formats.{digits_before, digits_after}
use Rattle.formats.specs.declared.Format.{Format}
use Rattle.formats.specs.declared.Format.TheVariants as format

-- every format has few enough digits
pub few_digits : (f : Format) → digits_before f + digits_after f ≤ 18
few_digits format.Frequency = omega arith
few_digits format.Power = omega arith
few_digits format.Azimuth = omega arith
few_digits format.Elevation = omega arith
few_digits format.Gain = omega arith
