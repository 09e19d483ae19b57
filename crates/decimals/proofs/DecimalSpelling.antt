-- Decimals that are written, place by place.
use mathlib.Core.Path.{◌≡◌, ◌∙◌}
use mathlib.Core.List.{List, [], ◌∷◌, ◌++◌}
use mathlib.Core.Bool.{Bool, true, false, cond}
use Prim.Native.Nat.{ℕ, ◌+◌, ◌/◌, ◌^◌}
use native.Mathlib.Omega.{arith}
use lib.ListN.{length, set, take, drop}
use Rattle.numerals.specs.Numbers.{spell_digits, is_negative}
use Rattle.decimals.specs.Decimals.{spell_magnitude, spell_decimal, decimal_width}
use lib.IntN.{ℤ, nat_abs}
use Rattle.numerals.proofs.Spelling.{put-before, put_first, put_last, set_before}

-- the digits after the point, the point, and the digits before it
pub put-parts : (s s₁ s₃ : List ℕ) (o a b v hi : ℕ) → length s ≡ o + a + 1 + b → hi ≡ v / 10 ^ b
    → s₁ ≡ take (o + a + 1) s ++ spell_digits b v (drop (o + a + 1 + b) s)
    → s₃ ≡ take o (set s₁ (o + a) 46) ++ spell_digits a hi (drop (o + a) (set s₁ (o + a) 46))
    → s₃ ≡ take o s ++ spell_magnitude a b v
unfolding spell_magnitude
put-parts s s₁ s₃ o a b v hi n h e f =
    let point = set_before s s₁ (spell_digits b v []) (o + a) 46 (omega arith) (put_last s s₁ (o + a + 1) b v n e) in
    put-before s (set s₁ (o + a) 46) s₃ (46 ∷ spell_digits b v []) o a hi (omega arith) point f ∙ rw h

-- a decimal with a sign column, and one without
module _ (s : List ℕ) (a b : ℕ) (sign : Bool) (z : ℤ) (m : ℕ) (n : length s ≡ decimal_width a b sign) (h : m ≡ nat_abs z) where
  pub put_sign : sign ≡ true → (s' : List ℕ) (x : ℕ) → cond (is_negative z) 45 32 ≡ x → s' ≡ take 1 s ++ spell_magnitude a b m → set s' 0 x ≡ spell_decimal a b sign z
  unfolding spell_decimal
  put_sign e s' x q f = let n' : length s ≡ 1 + a + 1 + b = rw e at n in rw (f, e, ← h, q) (put_first s _ x (omega arith))

  pub put-plain : sign ≡ false → (s' : List ℕ) → s' ≡ take 0 s ++ spell_magnitude a b m → s' ≡ spell_decimal a b sign z
  unfolding spell_decimal
  put-plain e s' f = rw (f, e, ← h)
