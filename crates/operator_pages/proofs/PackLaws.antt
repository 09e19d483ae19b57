-- The rows of the operators below c, moved to the front of a page.
use Rattle.std.specs.Prelude.{Ok}
use mathlib.Core.Path.{◌≡◌, refl, sym, ◌∙◌, ap}
use mathlib.Core.List.{List, [], ◌∷◌, ◌++◌, append-nil}
use Prim.Native.Nat.{ℕ, zero, suc, ◌+◌, ◌-◌, ◌≤◌, ◌<◌, zero-le}
use native.Mathlib.Numerals.{add-one}
use native.Mathlib.Omega.{arith}
use native.Mathlib.Decide.{dec_lt}
use borrow.Author.Tests.{eq-eqb, ne_eqb}
use lib.ListN.{length, set, replicate, length-append}
use lib.Seq.{set_at, append_snoc}
use Rattle.operator_counts.specs.declared.Tally.{Tally}
use Rattle.operator_counts.specs.Counts.{operators}
use Rattle.operator_pages.specs.declared.OperatorRow.{OperatorRow}
use Rattle.operator_pages.specs.declared.Page.{Page}
use Rattle.operator_pages.specs.Pages.{operator_row, row_if_any, rows_below, tally_in}
use Rattle.operator_pages.specs.Calls.{blank_row, filled_up, paged}

-- One row more in front of the blank ones.
pub filled_more : (rows : List OperatorRow) (n : ℕ) (y : OperatorRow) → n ≡ length rows → n < operators → set (filled_up rows) n y ≡ filled_up (rows ++ (y ∷ []))
unfolding filled_up
filled_more rows n y e l =
    let left : operators - length rows ≡ suc (operators - suc n) = omega (arith, e, l) in
    let left' : operators - length (rows ++ (y ∷ [])) ≡ operators - suc n = omega (arith, e, length-append rows (y ∷ [])) in
    rw (left, left')
    (set_at rows blank_row (replicate (operators - suc n) blank_row) y n (sym e)
    ∙ sym (append_snoc rows y (replicate (operators - suc n) blank_row)))

module _ (f : ℕ → Tally) (c : ℕ) where
  -- An operator without stations adds no row,
  pub row_skipped : (f c).stations ≡ 0 → rows_below f (suc c) ≡ rows_below f c
  unfolding rows_below row_if_any
  row_skipped e = rw (eq-eqb (f c).stations 0 e, append-nil)

  -- any other its own.
  pub row_added : ((f c).stations ≡ 0 → ⊥) → rows_below f (suc c) ≡ rows_below f c ++ (operator_row c (f c) ∷ [])
  unfolding rows_below row_if_any
  row_added e = rw (ne_eqb (f c).stations 0 e)

  -- It is one row more,
  pub one_more : ((f c).stations ≡ 0 → ⊥) → length (rows_below f (suc c)) ≡ length (rows_below f c) + 1
  one_more e = ap length (row_added e) ∙ length-append (rows_below f c) (operator_row c (f c) ∷ [])

-- Rows of more operators are as many or more.
grows : (f : ℕ → Tally) (k : ℕ) → length (rows_below f k) ≤ length (rows_below f (suc k))
unfolding rows_below
grows f k = omega (arith, length-append (rows_below f k) (row_if_any k (f k)))

pub rows_grow : (f : ℕ → Tally) (c k : ℕ) → c ≤ k → length (rows_below f c) ≤ length (rows_below f k)
rows_grow f c zero h = let e : c ≡ zero = omega arith in rw e (omega arith)
rows_grow f c (suc k) h =
    elim (dec_lt c (suc k)) [
      | yes l ↦ omega (arith, rows_grow f c k (omega arith), grows f k)
      | no l ↦ let e : c ≡ suc k = omega arith in rw e (omega arith)
    ]

-- n rows stand in front, which are those of the operators below c.
pub record Packing (counts : List Tally) (rows : List OperatorRow) (n c : ℕ) : Type 0 where
  pub most : c ≤ operators
  pub few : n ≤ c
  pub many : n ≡ length (rows_below (tally_in counts) c)
  pub stand : rows ≡ filled_up (rows_below (tally_in counts) c)

pub packing_none : (counts : List Tally) (p : Page) → p ≡ paged (Ok tt) [] → Packing counts p.rows 0 0 × (p.answer.outcome ≡ Ok tt)
unfolding rows_below paged
packing_none counts p e = (record { most = zero-le; few = zero-le; many = refl; stand = ap (λ (q : Page). q.rows) e }, ap (λ (q : Page). q.answer.outcome) e)

module _ (counts : List Tally) (rows : List OperatorRow) (n c : ℕ) (p : Packing counts rows n c) (l : c < operators) where
  -- Operator c has no station,
  pub packing_skip : (tally_in counts c).stations ≡ 0 → Packing counts rows n (c + 1)
  packing_skip e = rw (add-one c) record {
    most = l;
    few = omega (arith, p.few);
    many = p.many ∙ ap length (sym same);
    stand = p.stand ∙ ap filled_up (sym same);
  }
    where
      same : rows_below (tally_in counts) (suc c) ≡ rows_below (tally_in counts) c
      same = row_skipped (tally_in counts) c e

  -- or has some, and its row is put.
  pub packing_more : ((tally_in counts c).stations ≡ 0 → ⊥) → (y : OperatorRow) → y ≡ operator_row c (tally_in counts c) → Packing counts (set rows n y) (n + 1) (c + 1)
  packing_more e y is = rw (add-one c, add-one n) record {
    most = l;
    few = omega (arith, p.few);
    many = omega (arith, p.many, one_more (tally_in counts) c e);
    stand = ap (λ (r : List OperatorRow). set r n y) p.stand ∙ filled_more (rows_below (tally_in counts) c) n y p.many (omega (arith, p.few)) ∙ ap filled_up (ap (λ (z : OperatorRow). rows_below (tally_in counts) c ++ (z ∷ [])) is ∙ sym same);
  }
    where
      same : rows_below (tally_in counts) (suc c) ≡ rows_below (tally_in counts) c ++ (operator_row c (tally_in counts c) ∷ [])
      same = row_added (tally_in counts) c e

-- All hundred are through.
pub packing_done : (counts : List Tally) (p : Page) (n c : ℕ) → Packing counts p.rows n c → operators ≤ c → p.answer.outcome ≡ Ok tt
    → record { answer = record { outcome = p.answer.outcome; rows = n }; rows = p.rows } ≡ paged (Ok tt) (rows_below (tally_in counts) operators)
unfolding paged
packing_done counts p n c k h o =
    let end : c ≡ operators = omega (arith, h, k.most) in
    let many : n ≡ length (rows_below (tally_in counts) operators) = k.many ∙ ap (λ (m : ℕ). length (rows_below (tally_in counts) m)) end in
    let stand : p.rows ≡ filled_up (rows_below (tally_in counts) operators) = k.stand ∙ ap (λ (m : ℕ). filled_up (rows_below (tally_in counts) m)) end in
    rw (o, many, stand)
