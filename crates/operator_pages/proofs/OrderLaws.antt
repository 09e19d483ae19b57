-- Codes ascend.
use mathlib.Core.Path.{◌≡◌, refl, sym, ◌∙◌, ap}
use mathlib.Core.Bool.{Bool, true, false, cond}
use mathlib.Core.List.{List, [], ◌∷◌, ◌++◌, append-nil}
use Prim.Native.Nat.{ℕ, zero, suc, ◌+◌, ◌-◌, ◌*◌, ◌/◌, ◌%◌, ◌≤◌, ◌<◌}
use native.Mathlib.Decide.{dec_le}
use native.Mathlib.Nat.{lt_of_not-le}
use native.Mathlib.Omega.{arith}
use lib.Dec.{eqb}
use lib.ListN.{length, get_or, length-append, get_or-append}
use lib.Seq.{get_or_at}
use Rattle.numerals.specs.Numbers.{number, number_from}
use Rattle.numerals.proofs.RoundTrip.{spelled_says}
use Rattle.operator_counts.specs.declared.Tally.{Tally}
use Rattle.operator_counts.specs.Counts.{operators}
use Rattle.operator_pages.specs.declared.OperatorRow.{OperatorRow}
use Rattle.operator_pages.specs.Pages.{operator_row, row_if_any, rows_below}
use Rattle.operator_pages.specs.Calls.{no_row}

-- The number that a row's code says.
abbrev pub code_number : OperatorRow → ℕ
code_number y = number y.code

-- The row of operator c says c.
pub row_says : (c : ℕ) (t : Tally) → c < operators → code_number (operator_row c t) ≡ c
row_says c t l = spelled_says 2 0 c (omega (arith, l)) ∙ omega arith

abbrev pub row_in : List OperatorRow → ℕ → OperatorRow
row_in rows i = get_or rows i no_row

-- All codes are below k, and ascend.
pub record Ascending (k : ℕ) (rows : List OperatorRow) : Type 0 where
  pub under : (i : ℕ) → i < length rows → code_number (row_in rows i) < k
  pub rising : (i j : ℕ) → i < j → j < length rows → code_number (row_in rows i) < code_number (row_in rows j)

ascending_same : (k : ℕ) (rows : List OperatorRow) → Ascending k rows → Ascending (suc k) rows
ascending_same k rows o = record {
  under = λ i l. omega (arith, o.under i l);
  rising = o.rising;
}

module _ (k : ℕ) (rows : List OperatorRow) (t : Tally) (small : k < operators) (o : Ascending k rows) where
  abbrev more : List OperatorRow
  more = rows ++ (operator_row k t ∷ [])

  before : (i : ℕ) → i < length rows → row_in more i ≡ row_in rows i
  before i l = get_or-append rows (operator_row k t ∷ []) no_row i l

  last : (i : ℕ) → i < length more → length rows ≤ i → (i ≡ length rows) × (code_number (row_in more i) ≡ k)
  last i l h = (e, ap code_number (get_or_at rows (operator_row k t) [] no_row i (sym e)) ∙ row_says k t small)
    where
      e : i ≡ length rows
      e = omega (arith, l, h, length-append rows (operator_row k t ∷ []))

  ascending_more : Ascending (suc k) more
  ascending_more = record {
    under = λ i l. elim (dec_le (length rows) i) [
      | yes h ↦ omega (arith, (last i l h).1)
      | no n ↦ rw (before i (lt_of_not-le n)) (omega (arith, o.under i (lt_of_not-le n)))
    ];
    rising = λ i j l m. elim (dec_le (length rows) j) [
      | yes h ↦ rw (before i (omega (arith, l, (last j m h).0)), (last j m h).1) (o.under i (omega (arith, l, (last j m h).0)))
      | no n ↦ rw (before i (omega (arith, l, lt_of_not-le n)), before j (lt_of_not-le n)) (o.rising i j l (lt_of_not-le n))
    ];
  }

ascending_row : (k : ℕ) (rows : List OperatorRow) (t : Tally) → k < operators → Ascending k rows → Ascending (suc k) (rows ++ row_if_any k t)
unfolding row_if_any
ascending_row k rows t small o = by (eqb t.stations 0)
  where
    by : (b : Bool) → Ascending (suc k) (rows ++ cond b [] (operator_row k t ∷ []))
    by true = rw append-nil (ascending_same k rows o)
    by false = ascending_more k rows t small o

-- The rows of the operators below k ascend.
pub rows_ascend : (f : ℕ → Tally) (k : ℕ) → k ≤ operators → Ascending k (rows_below f k)
unfolding rows_below
rows_ascend f zero l = record { under = λ i l. absurd (omega arith); rising = λ i j l m. absurd (omega arith) }
rows_ascend f (suc k) l = ascending_row k (rows_below f k) (f k) l (rows_ascend f k (omega arith))
