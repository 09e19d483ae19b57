-- The rows that a trailer counts: a row is bad if the sum of its bytes is not 0, and where none is bad there is no lowest.
use mathlib.Core.Path.{◌≡◌, refl}
use mathlib.Core.Bool.{Bool, true, false, cond, not, ◌&&◌}
use mathlib.Core.List.{List, [], ◌∷◌}
use Prim.Native.Nat.{ℕ, zero, suc, ◌+◌, ◌-◌, ◌*◌, ◌≤◌}
use native.Mathlib.Decide.{ℕ_discrete}
use native.Mathlib.Omega.{arith}
use lib.Dec.{eqb}
use lib.ListN.{length, get_or, take, drop}
use borrow.Author.Tests.{eq-eqb, ne_eqb}
use Rattle.columns.specs.Texts.{every}
use Rattle.words.proofs.WordLaws.{take_next}
use Rattle.forms.specs.Counting.{or_else, first, count}
use Rattle.forms.specs.Forms.{page_row, bad_at}
use Rattle.forms.specs.OwnForm.{bad, row_width}

-- Where none passes there is no first.
pub count-first : (p : ℕ → Bool) (n : ℕ) → count p n ≡ 0 → first p n ≡ 0
count-first p zero e = refl
count-first p (suc n) e = by_case (p (suc n)) e (count-first p n)
  where
    by_case : (b : Bool) → count p n + cond b 1 0 ≡ 0 → (count p n ≡ 0 → first p n ≡ 0) → or_else (first p n) (cond b (suc n) 0) ≡ 0
    by_case true z ih = absurd (omega arith)
    by_case false z ih = let none : first p n ≡ 0 = ih (omega arith) in rw none

-- five bytes, one by one
five : (s : List ℕ) (at : ℕ) → at + 5 ≤ length s → take 5 (drop at s) ≡ get_or s at 0 ∷ get_or s (at + 1) 0 ∷ get_or s (at + 2) 0 ∷ get_or s (at + 3) 0 ∷ get_or s (at + 4) 0 ∷ []
five s at h =
    rw (
      take_next s at (at + 1) 4 (omega arith) (omega arith),
      take_next s (at + 1) (at + 2) 3 (omega arith) (omega arith),
      take_next s (at + 2) (at + 3) 2 (omega arith) (omega arith),
      take_next s (at + 3) (at + 4) 1 (omega arith) (omega arith),
      take_next s (at + 4) (at + 5) 0 (omega arith) (omega arith),
    )

-- a sum is 0 where both are
both_zero : (a b : ℕ) → eqb (a + b) 0 ≡ (eqb a 0 && eqb b 0)
both_zero a b = by_case (ℕ_discrete a 0) (ℕ_discrete b 0)
  where
    by_case : Dec (a ≡ 0) → Dec (b ≡ 0) → eqb (a + b) 0 ≡ (eqb a 0 && eqb b 0)
    by_case (yes x) (yes y) = rw (eq-eqb (a + b) 0 (omega arith), eq-eqb a 0 x, eq-eqb b 0 y)
    by_case (yes x) (no y) = rw (ne_eqb (a + b) 0 (λ z. y (omega arith)), eq-eqb a 0 x, ne_eqb b 0 y)
    by_case (no x) y = rw (ne_eqb (a + b) 0 (λ z. x (omega arith)), ne_eqb a 0 x)

regroup : (p q r s t : Bool) → ((((p && q) && r) && s) && t) ≡ (p && (q && (r && (s && (t && true)))))
regroup false q r s t = refl
regroup true false r s t = refl
regroup true true false s t = refl
regroup true true true false t = refl
regroup true true true true true = refl
regroup true true true true false = refl

zeros : (a b c d e : ℕ) → eqb (a + b + c + d + e) 0 ≡ (eqb a 0 && (eqb b 0 && (eqb c 0 && (eqb d 0 && (eqb e 0 && true)))))
zeros a b c d e = rw (both_zero (a + b + c + d) e, both_zero (a + b + c) d, both_zero (a + b) c, both_zero a b) (regroup (eqb a 0) (eqb b 0) (eqb c 0) (eqb d 0) (eqb e 0))

-- So the sum of a row's bytes tells whether it is bad.
pub bad_sum : (s : List ℕ) (i : ℕ) → row_width * i + row_width ≤ length s
    → not (eqb (get_or s (5 * i) 0 + get_or s (5 * i + 1) 0 + get_or s (5 * i + 2) 0 + get_or s (5 * i + 3) 0 + get_or s (5 * i + 4) 0) 0) ≡ bad s (i + 1)
unfolding bad_at page_row every
bad_sum s i h =
    let e : i + 1 - 1 ≡ i = omega arith in
    rw (e, five s (5 * i) h, zeros (get_or s (5 * i) 0) (get_or s (5 * i + 1) 0) (get_or s (5 * i + 2) 0) (get_or s (5 * i + 3) 0) (get_or s (5 * i + 4) 0))
