-- Texts that are the same are equal, and the other way round.
use mathlib.Core.Path.{◌≡◌, refl, sym, ap, ◌∙◌}
use mathlib.Core.Bool.{Bool, true, false, and-eq-true_iff}
use mathlib.Core.List.{List, [], ◌∷◌}
use Prim.Native.Nat.{ℕ}
use native.Mathlib.Omega.{arith}
use lib.Dec.{eqb}
use borrow.Author.Tests.{eq-eqb, eqb-true}
use Rattle.columns.specs.Texts.{same}

-- A text is the same as itself,
pub same_refl : (a : List ℕ) → same a a ≡ true
unfolding same
same_refl [] = refl
same_refl (x ∷ xs) = rw (eq-eqb x x refl) (same_refl xs)

-- texts that are the same are equal,
pub same_true : (a b : List ℕ) → same a b ≡ true → a ≡ b
unfolding same
same_true [] [] e = refl
same_true [] (y ∷ ys) e = absurd (let n : ◌≡◌ {A = ℕ} 0 1 = cc in omega arith)
same_true (x ∷ xs) [] e = absurd (let n : ◌≡◌ {A = ℕ} 0 1 = cc in omega arith)
same_true (x ∷ xs) (y ∷ ys) e =
    let both = (and-eq-true_iff (eqb y x) (same xs ys)).0 e in
    let h : y ≡ x = eqb-true y x both.0 in
    let t : xs ≡ ys = same_true xs ys both.1 in
    cc

-- and it does not matter which of the two is asked.
pub same_sym : (a b : List ℕ) → same a b ≡ same b a
same_sym a b = by_case (same a b) (same b a) refl refl
  where
    by_case : (x y : Bool) → same a b ≡ x → same b a ≡ y → x ≡ y
    by_case true y ex ey = let e : b ≡ a = sym (same_true a b ex) in sym (ap (λ (t : List ℕ). same b t) (sym e) ∙ same_refl b) ∙ ey
    by_case false true ex ey = let e : a ≡ b = sym (same_true b a ey) in sym (ex) ∙ ap (λ (t : List ℕ). same a t) (sym e) ∙ same_refl a
    by_case false false ex ey = refl
