-- `forms::readers::rows_in` meets its contract.
use Rattle.forms.specs.OwnForm.{rows_in}
use native.Mathlib.Omega.{arith}
use Rattle.forms.proofs.readers.rows_in.Goals as goal

pub returns-then-sheet-lt-TRAILER_LENGTH : goal.returns-then-sheet-lt-TRAILER_LENGTH
unfolding rows_in
returns-then-sheet-lt-TRAILER_LENGTH c = omega arith

pub returns : goal.returns
unfolding rows_in
returns c = omega arith
