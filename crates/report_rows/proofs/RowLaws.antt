-- The line of a row by the row's code, twin and clash.
use mathlib.Core.Path.{◌≡◌}
use mathlib.Core.Bool.{true, false}
use mathlib.Core.List.{List, []}
use Prim.Native.Nat.{ℕ, ◌+◌}
use Rattle.forms.specs.Forms.{code_in}
use Rattle.forms.specs.OwnForm.{row_in, twin_in, clash_in, bad}
use Rattle.printing.specs.Lines.{station_line}
use Rattle.report_rows.specs.Rows.{row_line}

module _ (sheet : List ℕ) (i : ℕ) where
  -- A good row has no line,
  pub good_row : bad sheet (i + 1) ≡ false → row_line sheet (i + 1) ≡ []
  unfolding row_line
  good_row e = rw e

  -- and a bad one the line of its code, its twin and its clash.
  pub bad_row : {c t h : ℕ} → bad sheet (i + 1) ≡ true → c ≡ code_in (row_in sheet (i + 1)) → t ≡ twin_in sheet (i + 1) → h ≡ clash_in sheet (i + 1)
      → row_line sheet (i + 1) ≡ station_line (i + 1) c t h
  unfolding row_line
  bad_row e ec et eh = rw (e, ec, et, eh)
