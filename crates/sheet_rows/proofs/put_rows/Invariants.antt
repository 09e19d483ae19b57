-- `sheet_rows::put_rows` meets its contract: so many rows are as they should be, and so many were written.
use mathlib.Core.Path.{◌≡◌}
use mathlib.Core.List.{◌++◌}
use Prim.Native.Nat.{◌*◌, ◌≤◌}
use lib.ListN.{length, drop}
use Rattle.forms.specs.Counting.{count, rows}
use Rattle.forms.specs.OwnForm.{row_width}
use Rattle.sheet.specs.Entered.{Entered, scoped, written, written_row}
use Rattle.sheet_rows.proofs.put_rows.Given as goal

abbrev pub invariant-loop-i : goal.invariant-loop-i
invariant-loop-i l = (length l.sheet ≡ length l.initial.sheet) × (l.sheet ≡ rows (written_row l.scope l.from l.file l.initial.sheet) l.i ++ drop (row_width * l.i) l.initial.sheet)
    × (l.wrote ≤ l.i) × (l.wrote ≡ count (written l.scope l.from l.file) l.i) × Entered l.file (scoped l.scope l.file) l.entered.references l.entered.sites l.i
