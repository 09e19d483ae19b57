-- How many bytes two texts have alike in front.
use mathlib.Core.Path.{◌≡◌, refl, sym, ap, ◌∙◌}
use mathlib.Core.Bool.{Bool, true, false, cond}
use mathlib.Core.List.{List, [], ◌∷◌, ◌++◌}
use Prim.Native.Nat.{ℕ, suc, ◌+◌, ◌≤◌, ◌<◌}
use native.Mathlib.Nat.{add-zero, zero-add}
use native.Mathlib.Numerals.{add-one}
use native.Mathlib.Omega.{arith}
use lib.Dec.{eqb}
use lib.ListN.{length, get_or, take, drop, drop_of_length-le}
use lib.Seq.{drop-cons}
use borrow.Author.Tests.{eq-eqb, ne_eqb, eqb-true, eqb-false}
use Rattle.alike.specs.Alike.{alike}

none_alike : (a : List ℕ) → alike a [] ≡ 0
unfolding alike
none_alike [] = refl
none_alike (x ∷ a) = refl

-- A comparison that has found i bytes alike so far
module _ (a b : List ℕ) (i : ℕ) (so_far : alike a b ≡ i + alike (drop i a) (drop i b)) where
  -- ends with a text,
  pub first_ended : length a ≤ i → i ≡ alike a b
  unfolding alike
  first_ended h = sym (so_far ∙ rw (drop_of_length-le a h) (add-zero i))

  pub second_ended : length b ≤ i → i ≡ alike a b
  second_ended h = sym (so_far ∙ rw (drop_of_length-le b h, none_alike (drop i a)) (add-zero i))

  -- ends where the next bytes differ,
  pub next_differs : i < length a → i < length b → (get_or a i 0 ≡ get_or b i 0 → ⊥) → i ≡ alike a b
  unfolding alike
  next_differs h l n = sym (so_far ∙ rw (drop-cons a i 0 h, drop-cons b i 0 l, ne_eqb (get_or a i 0) (get_or b i 0) n) (add-zero i))

  -- and goes on where they are equal.
  pub next_alike : i < length a → i < length b → get_or a i 0 ≡ get_or b i 0 → alike a b ≡ i + 1 + alike (drop (i + 1) a) (drop (i + 1) b)
  unfolding alike
  next_alike h l e = so_far ∙ rw (drop-cons a i 0 h, drop-cons b i 0 l, eq-eqb (get_or a i 0) (get_or b i 0) e, add-one i) (omega arith)

-- A text that is alike to its end is followed by what is alike behind it,
pub alike-on : (a c b : List ℕ) → alike a b ≡ length a → alike (a ++ c) b ≡ length a + alike c (drop (length a) b)
unfolding alike
alike-on [] c b e = sym (zero-add (alike c b))
alike-on (x ∷ a) c [] e = absurd (omega (arith, e))
alike-on (x ∷ a) c (y ∷ b) e = by (eqb x y) e (alike-on a c b)
  where
    by : (t : Bool) → cond t (suc (alike a b)) 0 ≡ suc (length a) → (alike a b ≡ length a → alike (a ++ c) b ≡ length a + alike c (drop (length a) b))
        → cond t (suc (alike (a ++ c) b)) 0 ≡ suc (length a) + alike c (drop (length a) b)
    by true e rest = let r : alike (a ++ c) b ≡ length a + alike c (drop (length a) b) = rest (omega (arith, e)) in omega (arith, r)
    by false e rest = absurd (omega (arith, e))

-- and one that is not decides.
pub alike-there : (a c b : List ℕ) → alike a b < length a → alike (a ++ c) b ≡ alike a b
unfolding alike
alike-there [] c b l = absurd (omega (arith, l))
alike-there (x ∷ a) c [] l = refl
alike-there (x ∷ a) c (y ∷ b) l = by (eqb x y) l (alike-there a c b)
  where
    by : (t : Bool) → cond t (suc (alike a b)) 0 < suc (length a) → (alike a b < length a → alike (a ++ c) b ≡ alike a b)
        → cond t (suc (alike (a ++ c) b)) 0 ≡ cond t (suc (alike a b)) 0
    by true l rest = ap suc (rest (omega (arith, l)))
    by false l rest = refl

-- No more is alike than there is,
pub alike_most : (a b : List ℕ) → alike a b ≤ length a
unfolding alike
alike_most [] b = omega arith
alike_most (x ∷ a) [] = omega arith
alike_most (x ∷ a) (y ∷ b) = by (eqb x y) (alike_most a b)
  where
    by : (t : Bool) → alike a b ≤ length a → cond t (suc (alike a b)) 0 ≤ suc (length a)
    by true l = omega (arith, l)
    by false l = omega arith

pub alike_itself : (a : List ℕ) → alike a a ≡ length a
unfolding alike
alike_itself [] = refl
alike_itself (x ∷ a) = rw (eq-eqb x x refl, alike_itself a)

-- what is alike are the same bytes,
pub alike-bytes : (a b : List ℕ) → take (alike a b) b ≡ take (alike a b) a
unfolding alike
alike-bytes [] b = refl
alike-bytes (x ∷ a) [] = refl
alike-bytes (x ∷ a) (y ∷ b) = by (eqb x y) refl (alike-bytes a b)
  where
    by : (t : Bool) → eqb x y ≡ t → take (alike a b) b ≡ take (alike a b) a → take (cond t (suc (alike a b)) 0) (y ∷ b) ≡ take (cond t (suc (alike a b)) 0) (x ∷ a)
    by true e rest = rw (eqb-true x y e, rest)
    by false e rest = refl

-- and the next is another.
pub alike_no_more : (a b : List ℕ) → alike a b < length a → alike a b < length b → get_or b (alike a b) 0 ≡ get_or a (alike a b) 0 → ⊥
unfolding alike
alike_no_more [] b l m = absurd (omega (arith, l))
alike_no_more (x ∷ a) [] l m = absurd (omega (arith, m))
alike_no_more (x ∷ a) (y ∷ b) l m = by (eqb x y) refl l m (alike_no_more a b)
  where
    by : (t : Bool) → eqb x y ≡ t → cond t (suc (alike a b)) 0 < suc (length a) → cond t (suc (alike a b)) 0 < suc (length b)
        → (alike a b < length a → alike a b < length b → get_or b (alike a b) 0 ≡ get_or a (alike a b) 0 → ⊥)
        → get_or (y ∷ b) (cond t (suc (alike a b)) 0) 0 ≡ get_or (x ∷ a) (cond t (suc (alike a b)) 0) 0 → ⊥
    by true e l m rest = rest (omega (arith, l)) (omega (arith, m))
    by false e l m rest = λ q. eqb-false x y e (sym q)
