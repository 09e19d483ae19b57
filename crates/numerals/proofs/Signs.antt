-- Numbers below zero, and their magnitudes, in 64 bits.
use mathlib.Core.Path.{◌≡◌, refl}
use Prim.Native.Nat.{zero, suc, ◌^◌, ◌<◌}
use native.Mathlib.Omega.{arith}
use lib.IntN.{ℤ, pos, negsuc, neg_ℤ, nat_abs}
use lib.Dec.{lit<}
use lib.Signed.{mag}
use mir.Syntax.{w64}
use mir.Val.{SFits, to_z, of_z}
use mir.Facts.{to_z-of_z}

-- a number that is in range either way can be negated
pub neg_fits : (z : ℤ) → nat_abs z < 2 ^ 63 → SFits w64 (neg_ℤ z)
neg_fits (pos zero) h = record { sfits = lit< tt }
neg_fits (pos (suc n)) h = record { sfits = omega arith }
neg_fits (negsuc n) h = record { sfits = omega arith }

-- and has the same magnitude
pub nat_abs_neg : (z : ℤ) → nat_abs (neg_ℤ z) ≡ nat_abs z
nat_abs_neg (pos zero) = refl
nat_abs_neg (pos (suc n)) = refl
nat_abs_neg (negsuc n) = refl

-- a number that is in range is read back from its bits
pub in_bits : (z : ℤ) → mag z < 2 ^ 63 → to_z w64 (of_z w64 z) ≡ z
in_bits z h = to_z-of_z {w = w64} {z = z} (record { sfits = h })
