-- A column of one byte, as the code compares it.
use mathlib.Core.Path.{◌≡◌, refl, sym}
use mathlib.Core.Bool.{true, false, and-true, and-false}
use mathlib.Core.List.{List, [], ◌∷◌}
use Prim.Native.Nat.{ℕ}
use Rattle.columns.specs.Sets.{is}
use Rattle.columns.specs.Texts.{bytes, each, byte_good, same}

-- a column that must be one letter is equal to it
pub one_letter : (p : List ℕ) → same (bytes "O") p ≡ byte_good (is "O") p
unfolding same byte_good each
one_letter [] = refl
one_letter (x ∷ []) = refl
one_letter (x ∷ y ∷ p) = refl
