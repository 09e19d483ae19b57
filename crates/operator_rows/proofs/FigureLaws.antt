-- Each row of a page has the figures of its operator's stations, and each operator that has a station has its row.
use mathlib.Core.Path.{◌≡◌, refl, sym, ◌∙◌, ap}
use mathlib.Core.Bool.{Bool, true, false, cond}
use mathlib.Core.List.{List, [], ◌∷◌, ◌++◌, append-nil}
use mathlib.Core.Logic.{⊎_elim}
use Prim.Native.Nat.{ℕ, zero, suc, ◌+◌, ◌≤◌, ◌<◌}
use native.Mathlib.Decide.{dec_lt}
use native.Mathlib.Nat.{eq-or-lt_of_le}
use native.Mathlib.Omega.{arith}
use borrow.Author.Tests.{eqb-true, eqb-false}
use lib.Dec.{eqb}
use lib.ListN.{length, get_or, length-append, get_or-append}
use lib.Seq.{get_or_at}
use Rattle.files.specs.Files.{stations}
use Rattle.hundredths.specs.Hundredths.{lower_of, higher_of}
use Rattle.hundredths.proofs.ExtremeLaws.{First, AtMost, AtLeast, lowest_is, highest_is}
use Rattle.operator_counts.specs.declared.Tally.{Tally}
use Rattle.operator_counts.specs.Counts.{operators, heard_at, sent_by, tally_of}
use Rattle.operator_pages.specs.declared.OperatorRow.{OperatorRow}
use Rattle.operator_pages.specs.Pages.{operator_row, row_if_any, rows_below, page_of}
use Rattle.operator_pages.specs.Calls.{no_row}

abbrev row_in : List OperatorRow → ℕ → OperatorRow
row_in rows i = get_or rows i no_row

-- Row y is that of an operator below k which has a station.
pub record IsRow (f : ℕ → Tally) (k : ℕ) (y : OperatorRow) : Type 0 where
  pub operator : ℕ
  pub below : operator < k
  pub figures : y ≡ operator_row operator (f operator)
  pub some : (f operator).stations ≡ 0 → ⊥

-- Operator c has a row among these.
pub record HasRow (f : ℕ → Tally) (c : ℕ) (rows : List OperatorRow) : Type 0 where
  pub place : ℕ
  pub within : place < length rows
  pub stands : row_in rows place ≡ operator_row c (f c)

up_le : (i k : ℕ) → i < suc k → i ≤ k
up_le i k l = omega arith

module _ (f : ℕ → Tally) (k : ℕ) where
  is_later : (y : OperatorRow) → IsRow f k y → IsRow f (suc k) y
  is_later y r = record { operator = r.operator; below = omega (arith, r.below); figures = r.figures; some = r.some }

  -- a row of one operator more is one of before, or that operator's
  module _ (rows : List OperatorRow) (ih : (i : ℕ) → i < length rows → IsRow f k (row_in rows i)) where
    abbrev more : List OperatorRow
    more = rows ++ (operator_row k (f k) ∷ [])

    is_more : ((f k).stations ≡ 0 → ⊥) → (i : ℕ) → i < length more → IsRow f (suc k) (row_in more i)
    is_more n i l = elim (dec_lt i (length rows)) [
      | yes h ↦ rw (get_or-append rows (operator_row k (f k) ∷ []) no_row i h) (is_later (row_in rows i) (ih i h))
      | no h ↦ last (omega (arith, l, h, length-append rows (operator_row k (f k) ∷ [])))
    ]
      where
        last : i ≡ length rows → IsRow f (suc k) (row_in more i)
        last e = record { operator = k; below = omega arith; figures = get_or_at rows (operator_row k (f k)) [] no_row i (sym e); some = n }

    is_next : (b : Bool) → eqb (f k).stations 0 ≡ b → (i : ℕ) → i < length (rows ++ cond b [] (operator_row k (f k) ∷ [])) → IsRow f (suc k) (row_in (rows ++ cond b [] (operator_row k (f k) ∷ [])) i)
    is_next true e i l = rw (append-nil rows) (is_later (row_in rows i) (ih i (rw (append-nil rows) at l)))
    is_next false e i l = is_more (eqb-false (f k).stations 0 e) i l

  -- an operator of before keeps its row, and the next one has its own
  has_later : (c : ℕ) (rows rest : List OperatorRow) → HasRow f c rows → HasRow f c (rows ++ rest)
  has_later c rows rest r = record {
    place = r.place;
    within = omega (arith, r.within, length-append rows rest);
    stands = get_or-append rows rest no_row r.place r.within ∙ r.stands;
  }

  has_next : (rows : List OperatorRow) (b : Bool) → eqb (f k).stations 0 ≡ b → ((f k).stations ≡ 0 → ⊥) → HasRow f k (rows ++ cond b [] (operator_row k (f k) ∷ []))
  has_next rows true e n = absurd (n (eqb-true (f k).stations 0 e))
  has_next rows false e n = record {
    place = length rows;
    within = omega (arith, length-append rows (operator_row k (f k) ∷ []));
    stands = get_or_at rows (operator_row k (f k)) [] no_row (length rows) refl;
  }

all_rows : (f : ℕ → Tally) (k i : ℕ) → i < length (rows_below f k) → IsRow f k (row_in (rows_below f k) i)
unfolding rows_below row_if_any
all_rows f zero i l = absurd (omega arith)
all_rows f (suc k) i l = is_next f k (rows_below f k) (all_rows f k) (eqb (f k).stations 0) refl i l

all_operators : (f : ℕ → Tally) (k c : ℕ) → c < k → ((f c).stations ≡ 0 → ⊥) → HasRow f c (rows_below f k)
unfolding rows_below row_if_any
all_operators f zero c l n = absurd (omega arith)
all_operators f (suc k) c l n = ⊎_elim
    (λ (e : c ≡ k). rw e (has_next f k (rows_below f k) (eqb (f k).stations 0) refl (rw e at n)))
    (λ (h : c < k). has_later f k c (rows_below f k) (row_if_any k (f k)) (all_operators f k c h n)) (eq-or-lt_of_le (up_le c k l))

module _ (file : List ℕ) where
  -- what is counted of each operator in the file
  abbrev counted : ℕ → Tally
  counted = tally_of (heard_at file) (stations file)

  -- Each row of a page has the figures of its operator's stations,
  pub row_figures : (i : ℕ) → i < length (page_of file) → IsRow counted operators (row_in (page_of file) i)
  unfolding page_of
  row_figures i l = all_rows counted operators i l

  -- each operator that has a station has its row,
  pub operator_listed : (c : ℕ) → c < operators → ((counted c).stations ≡ 0 → ⊥) → HasRow counted c (page_of file)
  unfolding page_of
  operator_listed c l n = all_operators counted operators c l n

  -- and lowest and highest in it are the extremes of its transmit frequencies.
  pub lowest_in_row : (c : ℕ) → First AtMost (λ k. sent_by c (heard_at file k)) (stations file) (counted c).lowest
  unfolding tally_of
  lowest_in_row c = lowest_is (λ k. sent_by c (heard_at file k)) (stations file)

  pub highest_in_row : (c : ℕ) → First AtLeast (λ k. sent_by c (heard_at file k)) (stations file) (counted c).highest
  unfolding tally_of
  highest_in_row c = highest_is (λ k. sent_by c (heard_at file k)) (stations file)
