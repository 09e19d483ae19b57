-- The range of heights, and of the whole numbers that columns say.
use mathlib.Core.Path.{◌≡◌}
use Prim.Native.Nat.{suc}
use lib.IntN.{ℤ, pos, negsuc}
use lib.Dec.{leb-suc-suc}
use Rattle.numerals.specs.Numbers.{signed_fits}
use Rattle.distances.specs.Distances.{height_range}

-- 4Z's range is that of a number with a sign in four columns
pub in_four : (z : ℤ) → signed_fits 4 z ≡ height_range z
unfolding signed_fits
in_four (pos n) = leb-suc-suc n 9999
in_four (negsuc n) = leb-suc-suc (suc n) 999
