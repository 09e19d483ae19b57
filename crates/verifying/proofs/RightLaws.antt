-- A sheet that is compared row by row as it is judged, whatever its form and its rows.
use mathlib.Core.Path.{◌≡◌, sym, ap, ◌∙◌}
use mathlib.Core.List.{List, [], ◌++◌, append-nil, append_assoc}
use Prim.Native.Nat.{ℕ, zero, suc, ◌+◌, ◌-◌, ◌*◌, ◌≤◌, ◌<◌}
use native.Mathlib.Nat.{add-zero, add-suc, mul-suc, le_refl}
use native.Mathlib.Numerals.{add-one}
use native.Mathlib.Omega.{arith}
use lib.ListN.{length, take, drop}
use lib.Seq.{take_all}
use Rattle.forms.specs.Counting.{first, count, rows}
use Rattle.forms.specs.Forms.{Form, bad_at, trailer_of, closed}
use Rattle.forms.proofs.RowLaws.{RowsWide, length-rows}
use Rattle.alike.specs.Alike.{alike}
use Rattle.alike.proofs.AlikeLaws.{alike-on, alike-there, alike_most, alike-bytes}

-- d rows behind the first m
following : (ℕ → List ℕ) → ℕ → ℕ → List ℕ
following row m zero = []
following row m (suc d) = following row m d ++ row (suc (m + d))

rows_split : (row : ℕ → List ℕ) (m d : ℕ) → rows row (m + d) ≡ rows row m ++ following row m d
unfolding following
rows_split row m zero = rw (add-zero m) (sym (append-nil (rows row m)))
rows_split row m (suc d) = rw (add-suc m d, rows_split row m d) (append_assoc (rows row m) (following row m d) (row (suc (m + d))))

module _ (f : Form) (row : ℕ → List ℕ) (wide : (n : ℕ) → RowsWide f.width row n) (s : List ℕ) where
  abbrev w : ℕ
  w = f.width

  size : (n : ℕ) → length (rows row n) ≡ w * n
  size n = length-rows w row n (wide n)

  -- i rows are right
  module _ (i : ℕ) (so_far : alike (rows row i) s ≡ w * i) where
    -- so that one more is as right as it is by itself
    one_more : alike (rows row (suc i)) s ≡ w * i + alike (row (suc i)) (drop (w * i) s)
    one_more = alike-on (rows row i) (row (suc i)) s (so_far ∙ sym (size i)) ∙ rw (size i)

    pub row_right : w ≤ alike (row (i + 1)) (drop (w * i) s) → alike (rows row (i + 1)) s ≡ w * (i + 1)
    row_right h =
        let h' : w ≤ alike (row (suc i)) (drop (w * i) s) = rw add-one at h in
        let most : alike (row (suc i)) (drop (w * i) s) ≤ length (row (suc i)) = alike_most (row (suc i)) (drop (w * i) s) in
        let own : length (row (suc i)) ≡ w = wide (suc i) i (le_refl (suc i)) in
        rw add-one (one_more ∙ omega (arith, h', most, own, mul-suc w i))

    pub row_wrong : (n : ℕ) → i < n → alike (row (i + 1)) (drop (w * i) s) < w → w * i + alike (row (i + 1)) (drop (w * i) s) ≡ alike (rows row n) s
    row_wrong n l h =
        let h' : alike (row (suc i)) (drop (w * i) s) < w = rw add-one at h in
        let short : alike (rows row (suc i)) s < length (rows row (suc i)) = omega (arith, h', one_more, size (suc i), mul-suc w i) in
        let all : suc i + (n - suc i) ≡ n = omega arith in
        let split : rows row n ≡ rows row (suc i) ++ following row (suc i) (n - suc i) = ap (λ (m : ℕ). rows row m) (sym all) ∙ rows_split row (suc i) (n - suc i) in
        rw add-one (sym (rw split (alike-there (rows row (suc i)) (following row (suc i) (n - suc i)) s short) ∙ one_more))

  module _ (n head : ℕ) where
    -- A wrong row is the sheet's first wrong byte,
    pub rows_decide : alike (rows row n) s < w * n → alike (rows row n) s ≡ alike (closed f n head (rows row n)) s
    unfolding closed
    rows_decide l = sym (alike-there (rows row n) _ s (rw (size n) l))

    -- and where all are right they are those that stand, and the trailer that follows from them decides.
    standing : w * n ≤ alike (rows row n) s → take (w * n) s ≡ rows row n
    standing h =
        let most : alike (rows row n) s ≤ length (rows row n) = alike_most (rows row n) s in
        let e : alike (rows row n) s ≡ w * n = omega (arith, h, most, size n) in
        let both : take (w * n) s ≡ take (w * n) (rows row n) = rw e at (alike-bytes (rows row n) s) in
        both ∙ take_all (w * n) (rows row n) (omega (arith, size n))

    pub trailer_decides : w * n ≤ alike (rows row n) s
        → w * n + alike (trailer_of f n head (first (bad_at f (take (w * n) s)) n) (count (bad_at f (take (w * n) s)) n)) (drop (w * n) s) ≡ alike (closed f n head (rows row n)) s
    unfolding closed
    trailer_decides h =
        let most : alike (rows row n) s ≤ length (rows row n) = alike_most (rows row n) s in
        let e : alike (rows row n) s ≡ length (rows row n) = omega (arith, h, most, size n) in
        rw (standing h) (sym (alike-on (rows row n) _ s e ∙ rw (size n)))
