-- A choice from a list of literals, tried two or four at a time.
use mathlib.Core.Path.{◌≡◌, refl}
use mathlib.Core.Bool.{Bool, true, false, ◌||◌, or-false}
use mathlib.Core.List.{List, [], ◌∷◌}
use Prim.Native.Nat.{ℕ}
use Prim.Native.String.{String}
use Rattle.columns.specs.Texts.{bytes, same, one_of}

or_regroup : (a b c : Bool) → (a || (b || c)) ≡ (a || b || c)
or_regroup true b c = refl
or_regroup false b c = refl

-- the first two literals, or one of the others
pub one_of-two : (x y : String) (xs : List String) (p : List ℕ) → one_of (x ∷ y ∷ xs) p ≡ ((same (bytes x) p || same (bytes y) p) || one_of xs p)
unfolding one_of
one_of-two x y xs p = or_regroup (same (bytes x) p) (same (bytes y) p) (one_of xs p)

-- the last literal
pub one_of_one : (x : String) (p : List ℕ) → one_of (x ∷ []) p ≡ same (bytes x) p
unfolding one_of
one_of_one x p = or-false (same (bytes x) p)

-- the first four literals, or one of the others
pub one_of_four : (x y z w : String) (xs : List String) (p : List ℕ) → one_of (x ∷ y ∷ z ∷ w ∷ xs) p ≡ ((same (bytes x) p || same (bytes y) p || (same (bytes z) p || same (bytes w) p)) || one_of xs p)
one_of_four x y z w xs p = rw (one_of-two x y (z ∷ w ∷ xs) p, one_of-two z w xs p) (or_regroup (same (bytes x) p || same (bytes y) p) (same (bytes z) p || same (bytes w) p) (one_of xs p))

-- and nothing else
pub one_of-none : (p : List ℕ) → one_of [] p ≡ false
unfolding one_of
one_of-none p = refl
