-- The end of a text, as the code takes it.
use mathlib.Core.Path.{◌≡◌, refl, ap}
use mathlib.Core.Bool.{false}
use mathlib.Core.List.{List, [], ◌∷◌}
use Prim.Native.Nat.{ℕ, zero, suc, ◌-◌, ◌≤◌, ◌<◌}
use native.Mathlib.Omega.{arith}
use native.Mathlib.Nat.{sub-zero}
use lib.ListN.{length, take, drop, length-drop}
use lib.Seq.{length-take-le}
use Rattle.columns.specs.Texts.{bytes, same, ends_in}
use Rattle.columns.proofs.TextLaws.{not_same}

nothing : (k : ℕ) → take {A = ℕ} k [] ≡ []
nothing zero = refl
nothing (suc k) = refl

-- the end of a front is a part of the whole
pub end_part : (s : List ℕ) (m n : ℕ) → drop m (take n s) ≡ take (n - m) (drop m s)
end_part s zero n = rw sub-zero
end_part [] (suc m) zero = rw (nothing (0 - suc m))
end_part [] (suc m) (suc n) = rw (nothing (suc n - suc m))
end_part (x ∷ s) (suc m) zero = let e : 0 - suc m ≡ 0 = omega arith in rw e
end_part (x ∷ s) (suc m) (suc n) = let e : suc n - suc m ≡ n - m = omega arith in rw e (end_part s m n)

-- a name ends in _R where its last two bytes are
pub ends_short : (p : List ℕ) → length p < 2 → ends_in "_R" p ≡ false
ends_short p h = not_same (bytes "_R") (drop (length p - 2) p) (λ e. omega (arith, e, length-drop (length p - 2) p))

pub ends_there : (s : List ℕ) (n : ℕ) → 2 ≤ n → n ≤ length s → ends_in "_R" (take n s) ≡ same (bytes "_R") (take (n - (n - 2)) (drop (n - 2) s))
ends_there s n two h = rw (length-take-le n s h) (ap (same (bytes "_R")) (end_part s (n - 2) n))
