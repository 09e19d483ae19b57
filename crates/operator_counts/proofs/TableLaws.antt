-- A table of f 0 to f (k - 1), in which one place changes.
use mathlib.Core.Path.{◌≡◌, refl, sym, ◌∙◌, ap}
use mathlib.Core.List.{List, [], ◌∷◌}
use mathlib.Core.Logic.{⊎_elim}
use Prim.Native.Nat.{ℕ, zero, suc, ◌+◌, ◌≤◌, ◌<◌}
use native.Mathlib.Decide.{ℕ_discrete}
use native.Mathlib.Nat.{eq-or-lt_of_le}
use native.Mathlib.Numerals.{add-one}
use native.Mathlib.Omega.{arith}
use lib.ListN.{length, get_or, set, length-append, length-set, get_or-append}
use lib.Seq.{get_or_at, get_or-set_same, get_or-set_other, ext_get_or}
use Rattle.operator_counts.specs.Counts.{tabled}

below_le : (i k : ℕ) → i < suc k → i ≤ k
below_le i k l = omega arith

module _ {A : Type 0} where
  -- It has k places,
  pub table-length : (f : ℕ → A) (k : ℕ) → length (tabled f k) ≡ k
  unfolding tabled
  table-length f zero = refl
  table-length f (suc k) = length-append (tabled f k) (f k ∷ []) ∙ ap (λ (n : ℕ). n + 1) (table-length f k) ∙ add-one k

  -- and at each the value there.
  pub table_at : (f : ℕ → A) (d : A) (k i : ℕ) → i < k → get_or (tabled f k) i d ≡ f i
  unfolding tabled
  table_at f d zero i l = absurd (omega arith)
  table_at f d (suc k) i l = ⊎_elim
      (λ (e : i ≡ k). rw e (get_or_at (tabled f k) (f k) [] d k (table-length f k)))
      (λ (h : i < k). get_or-append (tabled f k) (f k ∷ []) d i (omega (arith, table-length f k)) ∙ table_at f d k i h) (eq-or-lt_of_le (below_le i k l))

  -- Equal values give one table.
  pub table_same : (f g : ℕ → A) (k : ℕ) → ((c : ℕ) → f c ≡ g c) → tabled f k ≡ tabled g k
  unfolding tabled
  table_same f g zero e = refl
  table_same f g (suc k) e = rw (table_same f g k e, e k)

  -- One place changes, and no other does.
  pub table-set : (f g : ℕ → A) (k d : ℕ) (z : A) → ((c : ℕ) → (c ≡ d → ⊥) → g c ≡ f c) → d < k → set (tabled f k) d (g d) ≡ tabled g k
  table-set f g k d z e l = ext_get_or z (set (tabled f k) d (g d)) (tabled g k) (length-set (tabled f k) d (g d) ∙ table-length f k ∙ sym (table-length g k)) at
    where
      at : (i : ℕ) → i < length (set (tabled f k) d (g d)) → get_or (set (tabled f k) d (g d)) i z ≡ get_or (tabled g k) i z
      at i h = elim (ℕ_discrete i d) [
        | yes s ↦ rw s (get_or-set_same (tabled f k) d (g d) z (omega (arith, l, table-length f k)) ∙ sym (table_at g z k d l))
        | no n ↦ get_or-set_other (tabled f k) d i (g d) z n ∙ table_at f z k i (small i h) ∙ sym (e i n) ∙ sym (table_at g z k i (small i h))
      ]
        where
          small : (i : ℕ) → i < length (set (tabled f k) d (g d)) → i < k
          small i h = omega (arith, h, length-set (tabled f k) d (g d), table-length f k)
