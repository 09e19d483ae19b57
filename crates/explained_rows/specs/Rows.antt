-- Document 02, wish 7: the line that explains a bad row of a sheet.
use Rattle.std.specs.Prelude.{ℕ, cond, List, [], ◌++◌}
use Rattle.files.specs.Files.{record_at}
use Rattle.forms.specs.Forms.{code_in}
use Rattle.forms.specs.OwnForm.{row_in, twin_in, clash_in, bad}
use Rattle.printing.specs.Lines.{labelled, line_feed}
use Rattle.reasons.specs.Reasons.{reason_text}

-- ` twin T clash H`, the end of a line.
unfoldable pub line_end : ℕ → ℕ → List ℕ
line_end t h = labelled " twin " t ++ (labelled " clash " h ++ line_feed)

-- The line of station k with code c, twin t and clash h, whose record is r: what is wrong stands behind the code.
unfoldable pub explained_line : ℕ → ℕ → ℕ → ℕ → List ℕ → List ℕ
explained_line k c t h r = labelled "station " k ++ (labelled " code " c ++ (reason_text r c ++ line_end t h))

-- The line of row k of a file's sheet where it is bad, else none.
unfoldable pub row_explained : List ℕ → List ℕ → ℕ → List ℕ
row_explained file sheet k = cond (bad sheet k) (explained_line k (code_in (row_in sheet k)) (twin_in sheet k) (clash_in sheet k) (record_at file k)) []
