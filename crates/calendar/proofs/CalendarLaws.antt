-- The days of the months, as the code asks for them.
use mathlib.Core.Path.{◌≡◌}
use mathlib.Core.Logic.{inl, inr}
use mathlib.Core.Bool.{cond}
use mathlib.Core.List.{[], ◌∷◌}
use Prim.Native.Nat.{ℕ}
use types.Run.{OneOf}
use borrow.Author.Tests.{ne_eqb}
use Rattle.calendar.specs.Calendar.{is_leap, days_in}

-- February
pub days_february : (m y : ℕ) → m ≡ 2 → cond (is_leap y) 29 28 ≡ days_in m y
days_february m y e = rw e

-- a short month
pub days_short : (m y : ℕ) → OneOf (4 ∷ 6 ∷ 9 ∷ 11 ∷ []) m → 30 ≡ days_in m y
days_short m y (inl e) = rw e
days_short m y (inr (inl e)) = rw e
days_short m y (inr (inr (inl e))) = rw e
days_short m y (inr (inr (inr e))) = rw e

-- any other
pub days_long : (m y : ℕ) → (OneOf (2 ∷ []) m → ⊥) → (OneOf (4 ∷ 6 ∷ 9 ∷ 11 ∷ []) m → ⊥) → 31 ≡ days_in m y
days_long m y n s = rw (ne_eqb m 2 n, ne_eqb m 4 (λ e. s (inl e)), ne_eqb m 6 (λ e. s (inr (inl e))), ne_eqb m 9 (λ e. s (inr (inr (inl e)))), ne_eqb m 11 (λ e. s (inr (inr (inr e)))))
