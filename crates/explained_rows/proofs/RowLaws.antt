-- The line of a row: none where it is good.
use mathlib.Core.Path.{◌≡◌}
use mathlib.Core.Bool.{true, false}
use mathlib.Core.List.{List, []}
use Prim.Native.Nat.{ℕ, ◌+◌}
use Rattle.files.specs.Files.{record_at}
use Rattle.forms.specs.Forms.{code_in}
use Rattle.forms.specs.OwnForm.{row_in, twin_in, clash_in, bad}
use Rattle.explained_rows.specs.Rows.{explained_line, row_explained}

module _ (file sheet : List ℕ) (i : ℕ) where
  -- A good row has no line,
  pub good_row : bad sheet (i + 1) ≡ false → row_explained file sheet (i + 1) ≡ []
  unfolding row_explained
  good_row e = rw e

  -- and a bad one the line of its code, its twin, its clash and its record.
  pub bad_row : {c t h : ℕ} {r : List ℕ} → bad sheet (i + 1) ≡ true → c ≡ code_in (row_in sheet (i + 1)) → t ≡ twin_in sheet (i + 1) → h ≡ clash_in sheet (i + 1) → r ≡ record_at file (i + 1)
      → row_explained file sheet (i + 1) ≡ explained_line (i + 1) c t h r
  unfolding row_explained
  bad_row e ec et eh er = rw (e, ec, et, eh, er)
