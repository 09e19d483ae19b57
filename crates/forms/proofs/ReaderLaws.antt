-- What is read of a sheet, whatever its bytes: a row, a number, and what stands behind the rows.
use mathlib.Core.Path.{◌≡◌, sym, ap, ◌∙◌}
use mathlib.Core.List.{List}
use Prim.Native.Nat.{ℕ, suc, ◌+◌, ◌-◌, ◌*◌, ◌≤◌, ◌<◌}
use native.Mathlib.Omega.{arith}
use lib.ListN.{length, get_or, take, drop, drop_of_length-le}
use lib.Seq.{take_all, drop-drop, drop-cons, get_or-drop}
use Rattle.forms.specs.Forms.{value_from, page_row, head_at, lowest_at, found_at}
use Rattle.forms.specs.OwnForm.{number_bytes, row_width, row_in, head_in, lowest_in, found_in}

module _ (s : List ℕ) (i : ℕ) {rest : List ℕ} (is : rest ≡ drop (row_width * i) s) where
  -- Row i + 1 is the front of what stands behind i rows,
  pub row_whole : take row_width rest ≡ row_in s (i + 1)
  unfolding page_row
  row_whole = let e : i + 1 - 1 ≡ i = omega arith in rw (e, is)

  -- or all of it, where that is less.
  pub row_short : length rest < row_width → rest ≡ row_in s (i + 1)
  row_short h = sym (take_all row_width rest (omega arith)) ∙ row_whole

-- The number at a place: nothing past the end, one byte at the end, else two.
module _ (t : List ℕ) (place : ℕ) where
  pub number_past : length t ≤ place → 0 ≡ value_from 0 (take number_bytes (drop place t))
  number_past h = rw (drop_of_length-le t h)

  pub number-last : place + 1 ≡ length t → 0 * 256 + get_or t place 0 ≡ value_from 0 (take number_bytes (drop place t))
  number-last e =
      let h : place < length t = omega arith in
      let l : length t ≤ suc place = omega arith in
      rw (drop-cons t place 0 h, drop_of_length-le t l) (omega arith)

  pub number-two : place + 1 < length t → get_or t place 0 * 256 + get_or t (place + 1) 0 ≡ value_from 0 (take number_bytes (drop place t))
  number-two l =
      let h0 : place < length t = omega arith in
      let h1 : suc place < length t = omega arith in
      let e : suc place ≡ place + 1 = omega arith in
      rw (drop-cons t place 0 h0, drop-cons t (suc place) 0 h1, e) (omega arith)

module _ (s : List ℕ) (n : ℕ) {rest : List ℕ} (is : rest ≡ drop (row_width * n) s) where
  -- The trailer's parts, in what stands behind n rows.
  pub head-behind : get_or rest 3 0 ≡ head_in s n
  unfolding head_at
  head-behind = ap (λ (t : List ℕ). get_or t 3 0) is ∙ get_or-drop (row_width * n) s 3 0

  pub lowest_behind : value_from 0 (take number_bytes (drop 4 rest)) ≡ lowest_in s n
  unfolding lowest_at
  lowest_behind = ap (λ (t : List ℕ). value_from 0 (take number_bytes (drop 4 t))) is ∙ ap (λ (t : List ℕ). value_from 0 (take number_bytes t)) (drop-drop 4 (row_width * n) s)

  pub found_behind : value_from 0 (take number_bytes (drop (4 + number_bytes) rest)) ≡ found_in s n
  unfolding found_at
  found_behind = ap (λ (t : List ℕ). value_from 0 (take number_bytes (drop (4 + number_bytes) t))) is ∙ ap (λ (t : List ℕ). value_from 0 (take number_bytes t)) (drop-drop (4 + number_bytes) (row_width * n) s)
