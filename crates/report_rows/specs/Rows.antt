-- Document 01, "The sheet": what the program prints of a row.
use Rattle.std.specs.Prelude.{ℕ, cond, List, []}
use Rattle.forms.specs.Forms.{code_in}
use Rattle.forms.specs.OwnForm.{row_in, twin_in, clash_in, bad}
use Rattle.printing.specs.Lines.{station_line}

-- The line of row k: its code, its twin and its clash where it is bad, else none.
unfoldable pub row_line : List ℕ → ℕ → List ℕ
row_line sheet k = cond (bad sheet k) (station_line k (code_in (row_in sheet k)) (twin_in sheet k) (clash_in sheet k)) []
