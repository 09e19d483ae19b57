-- The station counts of all operators add up to the stations that are heard of.
use mathlib.Core.Path.{◌≡◌, refl, sym, ◌∙◌, ap}
use mathlib.Core.Bool.{Bool, true, false, cond}
use mathlib.Core.List.{List}
use mathlib.Core.Logic.{⊎_elim}
use Prim.Native.Nat.{ℕ, zero, suc, ◌+◌, ◌≤◌, ◌<◌}
use native.Mathlib.Decide.{ℕ_discrete}
use native.Mathlib.Nat.{eq-or-lt_of_le}
use native.Mathlib.Omega.{arith}
use lib.Dec.{eqb}
use Rattle.numerals.specs.Numbers.{number}
use Rattle.forms.specs.Counting.{count}
use Rattle.forms.proofs.CountLaws.{count_cong}
use Rattle.stations.specs.Stations.{code_at, operator_at, transmit_at}
use Rattle.hundredths.specs.Hundredths.{extreme, hundredths_of}
use Rattle.operator_counts.specs.declared.Heard.{Heard}
use Rattle.operator_counts.specs.declared.Tally.{Tally}
use Rattle.operator_counts.specs.Counts.{operators, heard_at, tally_of, added_to}
use Rattle.operator_counts.proofs.HeardLaws.{heard_below}
use Rattle.operator_counts.proofs.TallyLaws.{tally_nothing, tally_other, tally_own}
use Rattle.std.specs.Prelude.{Option, None, Some}

-- g 0 + .. + g (k - 1).
unfoldable pub sum_to : (ℕ → ℕ) → ℕ → ℕ
sum_to g zero = 0
sum_to g (suc k) = sum_to g k + g k

sum_same : (g g' : ℕ → ℕ) → ((c : ℕ) → g' c ≡ g c) → (k : ℕ) → sum_to g' k ≡ sum_to g k
unfolding sum_to
sum_same g g' e zero = refl
sum_same g g' e (suc k) = omega (arith, sum_same g g' e k, e k)

-- Where one number is one more, sums up to it stay, and each beyond it is one more.
module _ (g g' : ℕ → ℕ) (d : ℕ) (same : (c : ℕ) → (c ≡ d → ⊥) → g' c ≡ g c) (more : g' d ≡ g d + 1) where
  sum_below : (k : ℕ) → k ≤ d → sum_to g' k ≡ sum_to g k
  unfolding sum_to
  sum_below zero l = refl
  sum_below (suc k) l = omega (arith, sum_below k (omega arith), same k (λ e. omega (arith, e, l)))

  above : (k : ℕ) → (k ≡ d → ⊥) → d < suc k → d < k
  above k n l = ⊎_elim (λ e. absurd (n (sym e))) (λ h. h) (eq-or-lt_of_le (less k l))
    where
      less : (k : ℕ) → d < suc k → d ≤ k
      less k l = omega arith

  sum_above : (k : ℕ) → d < k → sum_to g' k ≡ sum_to g k + 1
  unfolding sum_to
  sum_above zero l = absurd (omega arith)
  sum_above (suc k) l = elim (ℕ_discrete k d) [
    | yes e ↦ let here : g' k ≡ g k + 1 = rw e more in omega (arith, sum_below k (omega (arith, e)), here)
    | no n ↦ omega (arith, sum_above k (above k n l), same k n)
  ]

-- A station is heard of.
abbrev is_heard : Option Heard → Bool
is_heard None = false
is_heard (Some x) = true

-- the stations of each operator
abbrev stations_by : (ℕ → Option Heard) → ℕ → ℕ → ℕ
stations_by h n c = (tally_of h n c).stations

module _ (h : ℕ → Option Heard) (small : (k : ℕ) (x : Heard) → h k ≡ Some x → x.operator < operators) where
  one_more : (n : ℕ) (x : Option Heard) → h (suc n) ≡ x → sum_to (stations_by h (suc n)) operators ≡ sum_to (stations_by h n) operators + cond (is_heard x) 1 0
  unfolding added_to
  one_more n None e = omega (arith, sum_same (stations_by h n) (stations_by h (suc n)) (λ c. ap (λ (t : Tally). t.stations) (tally_nothing h n c e)) operators)
  one_more n (Some x) e =
      sum_above (stations_by h n) (stations_by h (suc n)) x.operator
      (λ c o. ap (λ (t : Tally). t.stations) (tally_other h n c x e o)) (ap (λ (t : Tally). t.stations) (tally_own h n x e)) operators (small (suc n) x e)

  none : (k : ℕ) → sum_to (stations_by h 0) k ≡ 0
  unfolding sum_to tally_of
  none zero = refl
  none (suc k) = omega (arith, none k)

  all_heard : (n : ℕ) → sum_to (stations_by h n) operators ≡ count (λ k. is_heard (h k)) n
  all_heard zero = none operators
  all_heard (suc n) = one_more n (h (suc n)) refl ∙ ap (λ (m : ℕ). m + cond (is_heard (h (suc n))) 1 0) (all_heard n)

-- a station is heard of exactly where it breaks no rule
heard_good : (file : List ℕ) (k : ℕ) → is_heard (heard_at file k) ≡ eqb (code_at file k) 0
unfolding heard_at
heard_good file k = by (eqb (code_at file k) 0)
  where
    by : (b : Bool) → is_heard (cond b (Some (record { operator = number (operator_at file k); transmit = hundredths_of (transmit_at file k) })) None) ≡ b
    by true = refl
    by false = refl

-- The station counts of all operators add up to the stations with code 0.
pub sum_good : (file : List ℕ) (n : ℕ) → sum_to (λ c. (tally_of (heard_at file) n c).stations) operators ≡ count (λ k. eqb (code_at file k) 0) n
sum_good file n =
    all_heard (heard_at file) (heard_below file) n
    ∙ count_cong (λ k. is_heard (heard_at file k)) (λ k. eqb (code_at file k) 0) n (λ i l. heard_good file (suc i))
