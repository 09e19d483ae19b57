-- Rows of a fixed width, whatever they hold: written one after the other, kept, and read back.
use mathlib.Core.Path.{◌≡◌, refl, sym, ap, ◌∙◌}
use mathlib.Core.Logic.{⊎_elim}
use mathlib.Core.Bool.{Bool, true, false, cond}
use mathlib.Core.List.{List, ◌++◌, append_assoc}
use Prim.Native.Nat.{ℕ, zero, suc, ◌+◌, ◌-◌, ◌*◌, ◌<◌}
use native.Mathlib.Nat.{le_refl, eq-or-lt_of_le, mul-zero, mul-suc}
use native.Mathlib.Numerals.{add-one}
use native.Mathlib.Omega.{arith}
use lib.ListN.{length, take, drop, length-append, take-append-drop}
use lib.Seq.{take_at, drop_at, drop-drop}
use Rattle.forms.specs.Counting.{rows}

-- rows that agree
pub rows_cong : (f g : ℕ → List ℕ) (n : ℕ) → ((i : ℕ) → i < n → f (suc i) ≡ g (suc i)) → rows f n ≡ rows g n
rows_cong f g zero h = refl
rows_cong f g (suc n) h = rw (rows_cong f g n (λ i l. h i (omega arith)), h n (le_refl (suc n)))

-- the first n rows have w bytes each
abbrev pub RowsWide : ℕ → (ℕ → List ℕ) → ℕ → Type 0
RowsWide w row n = (i : ℕ) → i < n → length (row (suc i)) ≡ w

module _ (w : ℕ) (row : ℕ → List ℕ) where
  pub length-rows : (n : ℕ) → RowsWide w row n → length (rows row n) ≡ w * n
  length-rows zero wide = sym (mul-zero w)
  length-rows (suc n) wide = rw (length-append, length-rows n (λ i l. wide i (omega arith)), wide n (le_refl (suc n)), mul-suc w n)

  -- the rows that stand before what follows them
  pub take-rows : (n : ℕ) → RowsWide w row n → (rest : List ℕ) → take (w * n) (rows row n ++ rest) ≡ rows row n
  take-rows n wide rest = take_at (rows row n) rest (w * n) (length-rows n wide)

  drop-rows : (n : ℕ) → RowsWide w row n → (rest : List ℕ) → drop (w * n) (rows row n ++ rest) ≡ rest
  drop-rows n wide rest = drop_at (rows row n) rest (w * n) (length-rows n wide)

  -- row i + 1, read back
  pub row_back : (n : ℕ) → RowsWide w row n → (i : ℕ) (rest : List ℕ) → i < n → take w (drop (w * i) (rows row n ++ rest)) ≡ row (suc i)
  row_back zero wide i rest h = absurd (omega arith)
  row_back (suc n) wide i rest h =
      rw (append_assoc (rows row n) (row (suc n)) rest)
      (⊎_elim
      (λ e. let z : i ≡ n = omega (arith, e) in rw (z, drop-rows n (λ i l. wide i (omega arith)) (row (suc n) ++ rest)) (take_at (row (suc n)) rest w (wide n (le_refl (suc n)))))
      (λ l. let b : suc i < suc n = l in row_back n (λ i l. wide i (omega arith)) i (row (suc n) ++ rest) (omega arith))
      (eq-or-lt_of_le h))

  module _ (s : List ℕ) (i : ℕ) where
    -- where row i + 1 is as it should be, one more row stands
    pub row_kept : row (i + 1) ≡ take w (drop (w * i) s) → rows row i ++ drop (w * i) s ≡ rows row (i + 1) ++ drop (w * (i + 1)) s
    row_kept e =
        let split : take w (drop (w * i) s) ++ drop w (drop (w * i) s) ≡ drop (w * i) s = take-append-drop w (drop (w * i) s) in
        let next : w * suc i ≡ w * i + w = mul-suc w i in
        ap (λ (t : List ℕ). rows row i ++ t) (sym split)
        ∙ rw (← e, drop-drop w (w * i) s, add-one i, next) (sym (append_assoc (rows row i) (row (suc i)) (drop (w * i + w) s)))

    -- and where it is written over what stood there
    pub row_put : RowsWide w row i → (now : List ℕ) → now ≡ rows row i ++ drop (w * i) s → take (w * i) now ++ (row (i + 1) ++ drop (w * i + w) now) ≡ rows row (i + 1) ++ drop (w * (i + 1)) s
    row_put wide now e =
        let next : w * suc i ≡ w * i + w = mul-suc w i in
        let front : take (w * i) now ≡ rows row i = rw e (take-rows i wide (drop (w * i) s)) in
        let back : drop (w * i + w) now ≡ drop (w * i + w) s = sym (drop-drop w (w * i) now) ∙ ap (λ (t : List ℕ). drop w t) (rw e (drop-rows i wide (drop (w * i) s))) ∙ drop-drop w (w * i) s in
        rw (front, back, add-one i, next) (sym (append_assoc (rows row i) (row (suc i)) (drop (w * i + w) s)))

-- A sheet whose rows were `before`, mended where the test says so, is the sheet of `after`, if no other row differs.
pub mended_rows : (w : ℕ) (before after : ℕ → List ℕ) (touched : ℕ → Bool) (n : ℕ) (rest : List ℕ) → RowsWide w before n
    → ((i : ℕ) → i < n → touched (suc i) ≡ false → before (suc i) ≡ after (suc i))
    → rows (λ j. cond (touched j) (after j) (take w (drop (w * (j - 1)) (rows before n ++ rest)))) n ≡ rows after n
mended_rows w before after touched n rest wide agree =
    rows_cong (λ j. cond (touched j) (after j) (take w (drop (w * (j - 1)) (rows before n ++ rest)))) after n
    (λ i h. by_case (touched (suc i)) i h refl)
  where
    by_case : (b : Bool) (i : ℕ) → i < n → touched (suc i) ≡ b → cond (touched (suc i)) (after (suc i)) (take w (drop (w * (suc i - 1)) (rows before n ++ rest))) ≡ after (suc i)
    by_case true i h e = rw e
    by_case false i h e = let back : suc i - 1 ≡ i = omega arith in rw (e, back) (row_back w before n wide i rest h ∙ agree i h e)
