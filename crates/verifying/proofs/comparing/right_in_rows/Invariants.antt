-- `verifying::comparing::right_in_rows` meets its contract: all rows that were passed are right.
use mathlib.Core.Path.{◌≡◌}
use Prim.Native.Nat.{◌*◌}
use Rattle.forms.specs.Counting.{rows}
use Rattle.forms.specs.OwnForm.{row_width}
use Rattle.sheet.specs.Sheets.{row_of}
use Rattle.sheet.specs.Entered.{Entered, everybody}
use Rattle.alike.specs.Alike.{alike}
use Rattle.verifying.proofs.comparing.right_in_rows.Given as goal

abbrev pub invariant-loop-i : goal.invariant-loop-i
invariant-loop-i l = (alike (rows (row_of l.file) l.i) l.sheet ≡ row_width * l.i) × Entered l.file everybody l.entered.references l.entered.sites l.i
